use Rattle.std.proofs.Common.{◌≡◌, ◌++◌, flat_map, take}
use Rattle.link_text.specs.LinkText.{prev_line}
use Rattle.link_text.proofs.writing.write_parents.Given as goal

-- the lines of the names so far
abbrev pub invariant-loop-name : goal.invariant-loop-name
invariant-loop-name l = l.out ≡ l.fn.out ++ flat_map prev_line (take l.name-index l.prev)
