use Rattle.std.proofs.Common.{◌≡◌, ◌++◌, drop}
use Rattle.head_sync.specs.Messages.{name_lines}
use Rattle.head_sync.proofs.writing.write_names.Given as goal

abbrev pub invariant-loop-name : goal.invariant-loop-name
invariant-loop-name l = l.out ++ name_lines l.word (drop l.name-index l.names) ≡ l.fn.out ++ name_lines l.word l.names
