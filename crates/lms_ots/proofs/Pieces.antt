-- The loops over chains, one chain at a time.
use Rattle.std.proofs.Common.{◌≡◌, ℕ, suc, ◌+◌, ◌-◌, ◌*◌, ◌^◌, ◌<◌, ◌≤◌, List, [], ◌∷◌, ◌++◌, length, take, drop, get_or, refl, arith, add-one, append_assoc, append-nil}
use Rattle.std.proofs.lemmas.List.{drop-drop, take_all}
use Rattle.std.proofs.Math.Seq.{drop-cons, take-length, take-suc-set}
use Rattle.std.proofs.Math.ListN.{drop_of_length-le}
use Rattle.std.proofs.lemmas.Slice.{take-put_mid}
use borrow.Rule.Slice.PartMut.{put_mid}
use lib.ListN.{set}
use Rattle.lms_ots.specs.declared.kind.OtsKind.{OtsKind}
use Rattle.lms_ots.specs.Kinds.{ots_row}
use Rattle.lms_ots.specs.Digits.{coef}
use Rattle.lms_ots.specs.Chains.{chain, secret, secrets_from}
use Rattle.lms_ots.specs.Ots.{tops, starts, ends, pieces}

pub tops_step : (kind : OtsKind) (id : List ℕ) (q i : ℕ) (xs : List (List ℕ)) (m : List ℕ) → i < length xs
    → m ++ tops kind id q i (drop i xs)
    ≡ (m ++ chain id q i 0 (2 ^ (ots_row kind).w - 1) (get_or xs i [])) ++ tops kind id q (i + 1) (drop (i + 1) xs)
unfolding tops
tops_step kind id q i xs m h =
    let d : drop i xs ≡ get_or xs i [] ∷ drop (i + 1) xs = rw add-one (drop-cons xs i [] h) in
    rw (d, append_assoc) refl

pub tops_end : (kind : OtsKind) (id : List ℕ) (q i : ℕ) (xs : List (List ℕ)) (m : List ℕ) → length xs ≤ i → m ++ tops kind id q i (drop i xs) ≡ m
unfolding tops
tops_end kind id q i xs m h = let d : drop i xs ≡ [] = drop_of_length-le xs h in rw (d, append-nil) refl

-- the private elements of a leaf, filled in order
pub secrets_step : (id : List ℕ) (q : ℕ) (seed : List ℕ) (p i : ℕ) (xs : List (List ℕ)) → i < p → i < length xs
    → take (i + 1) (set xs i (secret id q i seed)) ++ secrets_from id q seed (i + 1) (p - (i + 1)) ≡ take i xs ++ secrets_from id q seed i (p - i)
unfolding secrets_from
secrets_step id q seed p i xs lt within =
    let e : p - i ≡ suc (p - (i + 1)) = omega arith in
    let t : take (i + 1) (set xs i (secret id q i seed)) ≡ take i xs ++ secret id q i seed ∷ [] = rw (add-one i) (take-suc-set xs i (secret id q i seed) within) in
    rw (t, e, append_assoc) refl

pub secrets_end : (id : List ℕ) (q : ℕ) (seed : List ℕ) (p i : ℕ) (xs : List (List ℕ)) → p ≤ i → length xs ≡ p
    → take i xs ++ secrets_from id q seed i (p - i) ≡ xs
unfolding secrets_from
secrets_end id q seed p i xs le size =
    let e : p - i ≡ 0 = omega arith in
    rw (e, append-nil) (take_all _ xs (omega arith))

pub ends_step : (kind : OtsKind) (id : List ℕ) (q : ℕ) (digits ys : List ℕ) (p i : ℕ) (m : List ℕ) → i < p
    → m ++ ends kind id q digits i (pieces (p - i) (drop (32 * i) ys))
    ≡ (m ++ chain id q i (coef digits i (ots_row kind).w) (2 ^ (ots_row kind).w - 1 - coef digits i (ots_row kind).w) (take 32 (drop (32 * i) ys)))
    ++ ends kind id q digits (i + 1) (pieces (p - (i + 1)) (drop (32 * (i + 1)) ys))
unfolding ends pieces
ends_step kind id q digits ys p i m h =
    let e : p - i ≡ suc (p - (i + 1)) = omega arith in
    let d : 32 * (i + 1) ≡ 32 * i + 32 = omega arith in
    rw (e, d, ← drop-drop 32 (32 * i) ys, append_assoc) refl

pub ends_end : (kind : OtsKind) (id : List ℕ) (q : ℕ) (digits ys : List ℕ) (p i : ℕ) (m : List ℕ) → p ≤ i
    → m ++ ends kind id q digits i (pieces (p - i) (drop (32 * i) ys)) ≡ m
unfolding ends pieces
ends_end kind id q digits ys p i m h = let e : p - i ≡ 0 = omega arith in rw (e, append-nil) refl

pub starts_step : (kind : OtsKind) (id : List ℕ) (q : ℕ) (digits : List ℕ) (xs : List (List ℕ)) (i : ℕ) (out y : List ℕ) → i < length xs → length out ≡ 32 * length xs → length y ≡ 32
    → y ≡ chain id q i 0 (coef digits i (ots_row kind).w) (get_or xs i [])
    → take (32 * (i + 1)) (put_mid (32 * i) 32 out y) ++ starts kind id q digits (i + 1) (drop (i + 1) xs)
    ≡ take (32 * i) out ++ starts kind id q digits i (drop i xs)
unfolding starts
starts_step kind id q digits xs i out y h room size is =
    let t : take (32 * (i + 1)) (put_mid (32 * i) 32 out y) ≡ take (32 * i) out ++ y = take-put_mid (32 * i) 32 out y (32 * (i + 1)) (omega arith) (omega arith) in
    let d : drop i xs ≡ get_or xs i [] ∷ drop (i + 1) xs = rw add-one (drop-cons xs i [] h) in
    rw (t, d, ← is, append_assoc) refl

pub starts_end : (kind : OtsKind) (id : List ℕ) (q : ℕ) (digits : List ℕ) (xs : List (List ℕ)) (i : ℕ) (out : List ℕ) → length xs ≤ i → i ≤ length xs → length out ≡ 32 * length xs
    → take (32 * i) out ++ starts kind id q digits i (drop i xs) ≡ out
unfolding starts
starts_end kind id q digits xs i out h le room =
    let e : i ≡ length xs = omega arith in
    let d : drop i xs ≡ [] = drop_of_length-le xs h in
    let l : 32 * i ≡ length out = omega arith in
    rw (d, append-nil, l, take-length) refl
