use Rattle.std.proofs.Common.{◌∙◌, refl, [], ◌∷◌, append_assoc, length-append}
use Rattle.lms_ots.proofs.Buffers.{two_parts, length-u32str, length-u16str}
use Rattle.lms_ots.proofs.chains.front_of.Goals as goal

pub returns : goal.returns
returns c =
    two_parts c.copy_from_slice.new.self (0 ∷ 0 ∷ 0 ∷ 0 ∷ 0 ∷ 0 ∷ []) c.copy_from_slice-2.new.self 16 6 (rw c.copy_from_slice.ensures.after c.told-id) refl (rw (c.copy_from_slice-2.ensures.after, c.numbers.ensures, length-append, length-u32str, length-u16str) refl)
    ∙ rw (c.copy_from_slice.ensures.after, c.copy_from_slice-2.ensures.after, c.numbers.ensures, append_assoc) refl
