use Rattle.std.proofs.Common.{◌≡◌, ◌++◌, length, flat_map}
use Rattle.std.specs.List.{AllByRecursion}
use Rattle.tg_text.specs.Spelling.{IsHash}
use Rattle.link_text.specs.LinkText.{prev_line}
use Rattle.link_text.proofs.next.next_parents.Given as goal

-- the lines so far are those of the parents so far
abbrev pub invariant-each : goal.invariant-each
invariant-each l = record { are : AllByRecursion IsHash l.parents; text : l.fn.lines ≡ flat_map prev_line l.parents ++ l.lines }

abbrev pub decreases-each : goal.decreases-each
decreases-each l = length l.lines
