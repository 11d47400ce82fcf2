use Rattle.std.proofs.Common.{◌≡◌, ◌++◌, flat_map, take}
use Rattle.link_text.specs.LinkText.{box_line}
use Rattle.link_text.proofs.writing.write_boxes.Given as goal

-- the lines of the boxes so far
abbrev pub invariant-loop-line : goal.invariant-loop-line
invariant-loop-line l = l.out ≡ l.fn.out ++ flat_map box_line (take l.line-index l.boxes)
