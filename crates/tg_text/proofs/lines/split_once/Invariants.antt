use Rattle.std.proofs.Common.{◌≡◌, false, take}
use Rattle.tg_text.specs.Spelling.{has_byte}
use Rattle.tg_text.proofs.lines.split_once.Given as goal

abbrev pub invariant-loop-i : goal.invariant-loop-i
invariant-loop-i l = has_byte l.separator (take l.i l.text) ≡ false
