use Rattle.std.proofs.Common.{◌∙◌, refl, [], ◌∷◌}
use Rattle.lms_ots.specs.Digits.{u32str, u16str}
use Rattle.lms_ots.proofs.Buffers.{two_parts}
use Rattle.lms_ots.proofs.chains.numbers.Goals as goal

pub returns : goal.returns
unfolding u32str u16str
returns c =
    two_parts c.copy_from_slice.new.self (0 ∷ 0 ∷ []) c.copy_from_slice-2.new.self 4 2 (rw (c.copy_from_slice.ensures.after, c.to_be_bytes.ensures) refl) refl (rw (c.copy_from_slice-2.ensures.after, c.to_be_bytes-2.ensures) refl)
    ∙ rw (c.copy_from_slice.ensures.after, c.copy_from_slice-2.ensures.after, c.to_be_bytes.ensures, c.to_be_bytes-2.ensures) refl
