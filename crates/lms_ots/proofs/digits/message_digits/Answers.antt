use Rattle.std.proofs.Common.{◌≡◌, ◌∙◌, refl, [], ◌∷◌, ◌++◌}
use Rattle.sha2.specs.Sha256.{sha256}
use Rattle.sha2.proofs.Facts256.{length-sha256}
use Rattle.lms_ots.specs.Digits.{message_digits, u16str}
use Rattle.lms_ots.proofs.Buffers.{two_parts}
use Rattle.lms_ots.proofs.digits.message_digits.Goals as goal

pub returns : goal.returns
unfolding message_digits u16str
returns c =
    let hashed : c.finalize-hashed.result ≡ sha256 (c.front_of.result ++ c.args.c.now ++ c.args.message.now) =
    c.finalize-hashed.ensures _ (c.update-3.ensures _ (c.update-2.ensures _ (c.update.ensures _ c.new-hasher.ensures))) in
    two_parts c.copy_from_slice.new.self (0 ∷ 0 ∷ []) c.copy_from_slice-2.new.self 32 2 (rw (c.copy_from_slice.ensures.after, hashed) (length-sha256 _)) refl (rw (c.copy_from_slice-2.ensures.after, c.to_be_bytes.ensures) refl)
    ∙ rw (c.copy_from_slice.ensures.after, c.copy_from_slice-2.ensures.after, c.to_be_bytes.ensures, c.checksum.ensures, hashed, c.front_of.ensures) refl
