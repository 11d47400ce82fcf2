-- The tests on a signature, one after the other.
use Rattle.std.proofs.Common.{◌≡◌, ◌≢◌, ℕ, ◌+◌, ◌^◌, ◌<◌, ◌≤◌, ◌==◌, ◌&&◌, true, false, List, [], ◌∷◌, length, take, drop, refl, ◌∙◌, arith, length-drop, Some, None}
use Rattle.std.specs.Str.{bytes_eq}
use Rattle.std.proofs.lemmas.Bool.{eqb-true, ltb-true, ne_eqb, eq-eqb, le-ltb, lt-ltb, and_right, and_parts}
use Rattle.std.proofs.lemmas.List.{take-take, length-take-le}
use Rattle.lms_ots.specs.declared.kind.OtsKind.{OtsKind}
use Rattle.lms_ots.specs.Kinds.{ots_row, ots_kind, ots_length}
use Rattle.lms_ots.specs.Ots.{is_ots}
use Rattle.tg_text.specs.Spelling.{number_at}
use Rattle.lms_tree.specs.declared.lms_kind.LmsKind.{LmsKind}
use Rattle.lms_tree.specs.declared.lms_kind.LmsKind.TheVariants.{H5, H10, H15, H20, H25}
use Rattle.lms_tree.specs.LmsKinds.{lms_row, lms_kind, lms_length, leaves_of}
use Rattle.lms_tree.specs.Verifying.{is_signature, IsSignature, leads_to, verifies_one, verifies}

pub wrong_length : (lms : LmsKind) (ots : OtsKind) (s : List ℕ) → length s ≢ lms_length lms ots → is_signature lms ots s ≡ false
unfolding is_signature
wrong_length lms ots s ne = rw (ne_eqb (length s) (lms_length lms ots) ne) refl

pub wrong_leaf : (lms : LmsKind) (ots : OtsKind) (s : List ℕ) → leaves_of lms ≤ number_at 0 s → is_signature lms ots s ≡ false
unfolding is_signature
wrong_leaf lms ots s le =
    rw (le-ltb (number_at 0 s) (leaves_of lms) le) (and_right (length s == lms_length lms ots) false refl)

pub types_left : (lms : LmsKind) (ots : OtsKind) (s : List ℕ) → length s ≡ lms_length lms ots → number_at 0 s < leaves_of lms
    → is_signature lms ots s ≡ (number_at 4 s == (ots_row ots).number) && (number_at (4 + ots_length ots) s == (lms_row lms).number)
unfolding is_signature
types_left lms ots s size low = rw (eq-eqb (length s) (lms_length lms ots) size, lt-ltb (number_at 0 s) (leaves_of lms) low) refl

pub fits : (lms : LmsKind) (ots : OtsKind) (s : List ℕ) → is_signature lms ots s ≡ true → IsSignature lms ots s
unfolding is_signature
fits lms ots s all =
    let one = and_parts _ _ all in
    let two = and_parts _ _ one.1 in
    let three = and_parts _ _ two.1 in
    record {
      size = eqb-true _ _ one.0;
      low = ltb-true _ _ two.0;
      ots_is = eqb-true _ _ three.0;
      lms_is = eqb-true _ _ three.1;
    }

pub from_fits : (lms : LmsKind) (ots : OtsKind) (s : List ℕ) → IsSignature lms ots s → is_signature lms ots s ≡ true
from_fits lms ots s f =
    types_left lms ots s f.size f.low
    ∙ rw (eq-eqb (number_at 4 s) (ots_row ots).number f.ots_is, eq-eqb (number_at (4 + ots_length ots) s) (lms_row lms).number f.lms_is) refl

-- the one-time signature within has its length and its type
pub number_within : (n : ℕ) (s : List ℕ) → 4 ≤ n → number_at 0 (take n (drop 4 s)) ≡ number_at 4 s
unfolding number_at
number_within n s le = rw (take-take 4 n (drop 4 s) le) refl

pub within_is_ots : (lms : LmsKind) (ots : OtsKind) (s : List ℕ) → is_signature lms ots s ≡ true → is_ots ots (take (ots_length ots) (drop 4 s)) ≡ true
within_is_ots lms ots s all =
    let f = fits lms ots s all in
    let whole = f.size in
    let size : length (take (ots_length ots) (drop 4 s)) ≡ ots_length ots = length-take-le (ots_length ots) (drop 4 s) (rw length-drop (omega arith)) in
    let number : number_at 0 (take (ots_length ots) (drop 4 s)) ≡ (ots_row ots).number = number_within (ots_length ots) s (omega arith) ∙ f.ots_is in
    rw (eq-eqb _ _ size, eq-eqb _ _ number) refl

pub bytes_eq_same : (xs : List ℕ) → bytes_eq xs xs ≡ true
bytes_eq_same [] = refl
bytes_eq_same (x ∷ xs) = rw (eq-eqb x x refl) (bytes_eq_same xs)

pub leaves_low : (lms : LmsKind) → leaves_of lms ≤ 2 ^ 25
leaves_low H5 = omega arith
leaves_low H10 = omega arith
leaves_low H15 = omega arith
leaves_low H20 = omega arith
leaves_low H25 = omega arith

-- the tests on a key
pub wrong_key : (key message s : List ℕ) → length key ≢ 56 → verifies key message s ≡ false
unfolding verifies verifies_one
wrong_key key message s ne = rw (ne_eqb (length key) 56 ne) refl

pub no_lms : (key message s : List ℕ) → lms_kind (number_at 0 key) ≡ None → verifies key message s ≡ false
unfolding verifies verifies_one
no_lms key message s e = rw e (and_right (length key == 56) false refl)

pub no_ots : (key message s : List ℕ) (lms : LmsKind) → lms_kind (number_at 0 key) ≡ Some lms → ots_kind (number_at 4 key) ≡ None → verifies key message s ≡ false
unfolding verifies verifies_one
no_ots key message s lms l e = rw (l, e) (and_right (length key == 56) false refl)

pub kinds_lead : (key message s : List ℕ) (lms : LmsKind) (ots : OtsKind) → length key ≡ 56 → lms_kind (number_at 0 key) ≡ Some lms → ots_kind (number_at 4 key) ≡ Some ots
    → verifies key message s ≡ leads_to lms ots key message s
unfolding verifies verifies_one
kinds_lead key message s lms ots size l e = rw (eq-eqb (length key) 56 size, l, e) refl
