-- What a buffer holds after its parts are written one after the other.
use Rattle.std.proofs.Common.{◌≡◌, ℕ, ◌<◌, List, [], ◌∷◌, ◌++◌, length, take, drop, refl, ap, ◌∙◌, arith, length-append, length-drop, append-nil}
use Rattle.std.proofs.lemmas.List.{take_at, length-set}
use Rattle.std.proofs.Math.ListN.{drop_of_length-le}
use Rattle.std.proofs.Math.Seq.{take-suc-set}
use Rattle.std.specs.Int.{w32, to_be_bytes}
use borrow.Rule.Slice.PartMut.{put_mid}
use lib.ListN.{set}
use Rattle.lms_ots.specs.Digits.{u32str, u16str}

pub two_parts : (front rest value : List ℕ) (n k : ℕ) → length front ≡ n → length rest ≡ k → length value ≡ k → put_mid n k (front ++ rest) value ≡ front ++ value
two_parts front rest value n k hf hr hv =
    let start : take n (front ++ rest) ≡ front = take_at front rest n hf in
    let end : drop k (drop n (front ++ rest)) ≡ [] = drop_of_length-le (drop n (front ++ rest)) {i = k} (rw (length-drop, length-append) (omega arith)) in
    rw (start, end, append-nil) refl

pub three_parts : (front rest value : List ℕ) (j : ℕ) → length front ≡ 22 → length rest ≡ 33 → length value ≡ 32 → put_mid 23 32 (set (front ++ rest) 22 j) value ≡ front ++ j ∷ [] ++ value
three_parts front rest value j hf hr hv =
    let lt : 22 < length (front ++ rest) = rw length-append (omega arith) in
    let start : take 23 (set (front ++ rest) 22 j) ≡ front ++ j ∷ [] = take-suc-set (front ++ rest) 22 j lt ∙ ap (λ t. t ++ j ∷ []) (take_at front rest 22 hf) in
    let end : drop 32 (drop 23 (set (front ++ rest) 22 j)) ≡ [] = drop_of_length-le (drop 23 (set (front ++ rest) 22 j)) {i = 32} (rw (length-drop, length-set, length-append) (omega arith)) in
    rw (start, end, append-nil) refl

pub length-u32str : (n : ℕ) → length (u32str n) ≡ 4
unfolding u32str
length-u32str n = refl

pub length-u16str : (n : ℕ) → length (u16str n) ≡ 2
unfolding u16str
length-u16str n = refl

pub u32str_is : (n : ℕ) → to_be_bytes w32 n ≡ u32str n
unfolding u32str
u32str_is n = refl
