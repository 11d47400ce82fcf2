-- The symbolic keeper meets the laws of a sealer.
use Rattle.std.proofs.Common.{◌≡◌, ℕ, List, ◌++◌, length, take, drop, Some, true, refl, arith, length-append}
use Rattle.std.proofs.Math.Seq.{take-append_seam, drop-append_seam}
use Rattle.std.proofs.lemmas.Slice.Eq.{bytes_eq-Decides}
use Rattle.std.specs.Str.{bytes_eq}
use Rattle.sha2.specs.Sha256.{sha256}
use Rattle.sha2.proofs.Facts256.{length-sha256}
use Rattle.tg_text.specs.Spelling.{IsHash}
use Rattle.lockboxes.specs.Boxes.{IsBox}
use Rattle.lockboxes.specs.Digests.{hash_of}
use Rattle.lockboxes.specs.Symbolic.{symbolic_seal, symbolic_unseal}

-- a symbolic public key is a digest
pub symbolic_publics : (secret : List ℕ) → IsHash secret → IsHash (sha256 secret)
symbolic_publics secret is = hash_of secret

-- a symbolic box has 64 bytes
pub symbolic_boxes : (secret to_public : List ℕ) → IsHash secret → IsHash to_public → IsBox (symbolic_seal secret to_public)
symbolic_boxes secret to_public is to = record {
  some = simp length-append (omega (arith, is.size, to.size));
  short = simp length-append (omega (arith, is.size, to.size));
}

take_front : (front back : List ℕ) (n : ℕ) → length front ≡ n → take n (front ++ back) ≡ front
take_front front back n size = rw (← size) (take-append_seam front back)

drop_front : (front back : List ℕ) (n : ℕ) → length front ≡ n → drop n (front ++ back) ≡ back
drop_front front back n size = rw (← size) (drop-append_seam front back)

-- the public key of a secret and 32 bytes behind it open to these
pub unseal_content : (content secret : List ℕ) → length content ≡ 32 → symbolic_unseal (sha256 secret ++ content) secret ≡ Some content
unseal_content content secret size =
    let public_size = length-sha256 secret in
    let whole : length (sha256 secret ++ content) ≡ 64 = simp length-append (omega (arith, size, public_size)) in
    let front = take_front (sha256 secret) content 32 public_size in
    let back = drop_front (sha256 secret) content 32 public_size in
    let same : bytes_eq (sha256 secret) (sha256 secret) ≡ true = (bytes_eq-Decides (sha256 secret) (sha256 secret)).1 refl in
    rw (whole, front, back, same) refl

pub symbolic_opens : (secret key : List ℕ) → IsHash secret → IsHash key → symbolic_unseal (symbolic_seal secret (sha256 key)) key ≡ Some secret
symbolic_opens secret key is of = unseal_content secret key is.size
