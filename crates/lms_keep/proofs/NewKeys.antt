-- A key that is made of words of 32 bytes is in its ranges.
use Rattle.std.proofs.Common.{◌≡◌, ◌<◌, ℕ, zero, suc, List, [], ◌∷◌, length, slice_index, take, refl, arith}
use Rattle.std.proofs.lemmas.List.{length-take-le}
use Rattle.tg_text.specs.Spelling.{AreBytes}
use Rattle.lms_keep.specs.Making.{NewKeyHasAFile}

with_byte : (b : ℕ) (bytes : List ℕ) → b < 256 → AreBytes bytes → AreBytes (b ∷ bytes)
with_byte b bytes small are zero = small
with_byte b bytes small are (suc i) = are i

front_bytes : (n : ℕ) (word : List ℕ) → AreBytes word → AreBytes (take n word)
front_bytes zero word are = λ i. omega arith
front_bytes (suc n) [] are = are
front_bytes (suc n) (b ∷ word) are = with_byte b (take n word) (are 0) (front_bytes n word (λ k. are (suc k)))

pub new_key_has_a_file : NewKeyHasAFile
new_key_has_a_file user first second third named one two three = record {
  range = record {
    user = named;
    kinds = (omega arith, omega arith, omega arith, omega arith);
    id = record { size = length-take-le 16 first (omega (arith, one.size)); bytes = front_bytes 16 first one.bytes };
    seed = two;
    secret = three;
    next = omega arith;
  };
  is_text = refl;
}
