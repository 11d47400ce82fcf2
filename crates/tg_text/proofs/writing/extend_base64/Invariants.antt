use Rattle.std.proofs.Common.{◌≡◌, ◌++◌, ◌%◌, List, ℕ, length}
use Rattle.tg_text.specs.Spelling.{spell_base64}
use Rattle.tg_text.proofs.writing.extend_base64.Given as goal

-- what was taken off is written, whole groups of three
abbrev pub invariant-loop-rest : goal.invariant-loop-rest
invariant-loop-rest l = (done : List ℕ) × (l.bytes ≡ done ++ l.rest) × (length done % 3 ≡ 0) × (l.out ≡ l.fn.out ++ spell_base64 done)

abbrev pub decreases-loop-rest : goal.decreases-loop-rest
decreases-loop-rest l = length l.rest
