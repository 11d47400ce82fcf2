use Rattle.std.proofs.Common.{◌≡◌, ◌++◌, take}
use Rattle.tg_text.specs.Spelling.{spell_hex}
use Rattle.tg_text.proofs.writing.extend_hex.Given as goal

abbrev pub invariant-loop-byte : goal.invariant-loop-byte
invariant-loop-byte l = l.out ≡ l.fn.out ++ spell_hex (take l.byte-index l.bytes)
