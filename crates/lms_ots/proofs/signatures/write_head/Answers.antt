use Rattle.std.proofs.Common.{refl}
use Rattle.lms_ots.specs.Digits.{u32str}
use Rattle.lms_ots.proofs.signatures.write_head.Goals as goal

pub returns : goal.returns
unfolding u32str
returns c = rw (c.copy_from_slice.ensures.after, c.copy_from_slice-2.ensures.after, c.to_be_bytes.ensures, c.number.ensures) refl
