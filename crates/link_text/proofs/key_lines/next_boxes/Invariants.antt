use Rattle.std.proofs.Common.{◌≡◌, ◌++◌, length, flat_map}
use Rattle.std.specs.List.{AllByRecursion}
use Rattle.link_text.specs.KeyRanges.{IsBoxLine}
use Rattle.link_text.specs.LinkText.{box_line}
use Rattle.link_text.proofs.key_lines.next_boxes.Given as goal

-- the lines so far are those of the boxes so far
abbrev pub invariant-each : goal.invariant-each
invariant-each l = record { are : AllByRecursion IsBoxLine l.boxes; text : l.fn.lines ≡ flat_map box_line l.boxes ++ l.lines }

abbrev pub decreases-each : goal.decreases-each
decreases-each l = length l.lines
