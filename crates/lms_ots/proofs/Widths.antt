-- Digits by the four widths.
use Rattle.std.proofs.Common.{◌≡◌, ℕ, ◌+◌, ◌-◌, ◌*◌, ◌/◌, ◌%◌, ◌^◌, ◌<◌, ◌≤◌, List, refl, inl, inr, arith, bit_and, get_or, add-one}
use Rattle.std.proofs.lemmas.Nat.{and_mask}
use Rattle.lms_ots.specs.declared.kind.OtsKind.{OtsKind}
use Rattle.lms_ots.specs.declared.kind.OtsKind.TheVariants.{W1, W2, W4, W8}
use Rattle.lms_ots.specs.Kinds.{IsWidth, ots_row}
use Rattle.lms_ots.specs.Digits.{coef, checksum, sum_below}

pub top_digit : (w : ℕ) → IsWidth w → 255 / 2 ^ (8 - w) ≡ 2 ^ w - 1
top_digit w (inl e) = rw e refl
top_digit w (inr (inl e)) = rw e refl
top_digit w (inr (inr (inl e))) = rw e refl
top_digit w (inr (inr (inr e))) = rw e refl

pub coef_masked : (s : List ℕ) (i w : ℕ) → IsWidth w → bit_and (get_or s (i * w / 8) 0 / 2 ^ (8 - (w * (i % (8 / w)) + w))) (255 / 2 ^ (8 - w)) ≡ coef s i w
unfolding coef
coef_masked s i w h = rw (top_digit w h) (and_mask _ w)

pub coef_small : (s : List ℕ) (i : ℕ) (kind : OtsKind) → coef s i (ots_row kind).w ≤ 2 ^ (ots_row kind).w - 1
unfolding coef
coef_small s i W1 = omega arith
coef_small s i W2 = omega arith
coef_small s i W4 = omega arith
coef_small s i W8 = omega arith

-- a digit of this width is no greater than the number of steps
pub digit_is_small : (kind : OtsKind) (s : List ℕ) (i w steps digit : ℕ) → steps ≡ 2 ^ (ots_row kind).w - 1 → digit ≡ coef s i w → w ≡ (ots_row kind).w → digit ≤ steps
digit_is_small kind s i w steps digit es ed ew = rw (es, ed, ew) (coef_small s i kind)

-- the greatest distance of digit i from the number of steps
pub sum_more : (kind : OtsKind) (s : List ℕ) (i w steps digit sum : ℕ) → steps ≡ 2 ^ (ots_row kind).w - 1 → digit ≡ coef s i w → w ≡ (ots_row kind).w
    → sum ≡ sum_below (λ k. 2 ^ (ots_row kind).w - 1 - coef s k (ots_row kind).w) i
    → sum + (steps - digit) ≡ sum_below (λ k. 2 ^ (ots_row kind).w - 1 - coef s k (ots_row kind).w) (i + 1)
unfolding sum_below
sum_more kind s i w steps digit sum es ed ew e = rw (es, ed, ew, e, add-one) refl

pub steps_small : (kind : OtsKind) (steps : ℕ) → steps ≡ 2 ^ (ots_row kind).w - 1 → steps ≤ 255
steps_small W1 steps e = omega arith
steps_small W2 steps e = omega arith
steps_small W4 steps e = omega arith
steps_small W8 steps e = omega arith

pub checksum_is : (kind : OtsKind) (s : List ℕ) (i w ls sum : ℕ) → w ≡ (ots_row kind).w → ls ≡ (ots_row kind).ls → i ≡ 256 / w
    → sum ≡ sum_below (λ k. 2 ^ (ots_row kind).w - 1 - coef s k (ots_row kind).w) i
    → sum * 2 ^ ls % 2 ^ 16 ≡ checksum kind s
unfolding checksum
checksum_is kind s i w ls sum ew el ei e = rw (e, el, ei, ew) refl

-- every digit of the 34 bytes lies within them
pub digit_within : (kind : OtsKind) (i w : ℕ) → i < (ots_row kind).p → w ≡ (ots_row kind).w → i * w / 8 < 34
digit_within W1 i w h e = rw e (omega arith)
digit_within W2 i w h e = rw e (omega arith)
digit_within W4 i w h e = rw e (omega arith)
digit_within W8 i w h e = rw e (omega arith)
