use Rattle.std.proofs.Common.{◌≡◌, ◌++◌, length}
use Rattle.std.specs.List.{AllByRecursion}
use Rattle.tg_text.specs.Spelling.{IsHash}
use Rattle.head_sync.specs.Messages.{name_lines}
use Rattle.head_sync.proofs.reading.next_name_lines.Given as goal

-- the lines so far are those of the names so far
abbrev pub invariant-each : goal.invariant-each
invariant-each l = record { are : AllByRecursion IsHash l.names; text : l.fn.lines ≡ name_lines l.word l.names ++ l.lines }

abbrev pub decreases-each : goal.decreases-each
decreases-each l = length l.lines
