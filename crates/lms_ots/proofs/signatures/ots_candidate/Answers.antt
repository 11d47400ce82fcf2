use Rattle.std.proofs.Common.{refl}
use Rattle.lms_ots.specs.Ots.{candidate}
use Rattle.lms_ots.proofs.signatures.ots_candidate.Goals as goal

pub returns-clause-key : goal.returns-clause-key
unfolding candidate
returns-clause-key c = rw (c.key_of_starts.ensures, c.message_digits-digits.ensures, c.split_at.ensures.back) refl
