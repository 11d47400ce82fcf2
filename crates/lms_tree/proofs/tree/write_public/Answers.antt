use Rattle.std.proofs.Common.{refl}
use Rattle.lms_ots.specs.Digits.{u32str}
use Rattle.lms_tree.proofs.tree.write_public.Goals as goal

pub returns : goal.returns
unfolding u32str
returns c =
    rw (c.copy_from_slice.ensures.after, c.copy_from_slice-2.ensures.after, c.copy_from_slice-3.ensures.after, c.copy_from_slice-4.ensures.after, c.to_be_bytes.ensures, c.to_be_bytes-2.ensures, c.number.ensures, c.number-2.ensures) refl
