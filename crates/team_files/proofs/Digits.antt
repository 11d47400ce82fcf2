-- Which digits spell a name, and which a number below 10 ^ 9. So a front of such digits can be told.
use Rattle.std.proofs.Common.{◌≡◌, ℕ, zero, suc, ◌+◌, ◌-◌, ◌*◌, ◌/◌, ◌%◌, ◌<◌, ◌≤◌, ◌^◌, ◌==◌, Bool, true, false, ◌&&◌, ◌||◌, List, [], ◌∷◌, ◌++◌, length, slice_index, get_or, replicate, refl, sym, ap, ◌∙◌, true≢false, length-append, arith}
use Rattle.std.specs.List.{list_all}
use Rattle.std.specs.Str.{all_ascii_digits}
use Rattle.std.specs.Str.Parse.{digits_value}
use Rattle.std.proofs.lemmas.Bool.{and_from, and_parts, eq-eqb, eqb-true, or_right}
use Rattle.std.proofs.lemmas.Fmt.{decimal_digit, decimal_nonempty, decimal-digits_value, digits_decimal, first_decimal, length-decimal-le}
use Rattle.std.proofs.lemmas.List.{length-replicate}
use Rattle.std.proofs.lemmas.List.Folds.{list_all-append}
use Rattle.std.proofs.lemmas.Str.Parse.{digits_value_short, numerals_by_value, tells_all_ascii_digits}
use Rattle.hex.specs.Hex.{encode_with, lower_digits}
use Rattle.tg_text.specs.Spelling.{AreBytes, IsHash, has_byte, spell_decimal, spell_hex}
use Rattle.team_files.specs.LineFronts.{is_lower_digit}

-- a byte that stands in a table stands at a place of it
in_table : (c : ℕ) (t : List ℕ) → has_byte c t ≡ true → (v : ℕ) × (v < length t) × (slice_index t v ≡ c)
in_table c [] h = absurd (true≢false (sym h))
in_table c (x ∷ t) h = by (in_table c t) (x == c) refl h
  where
    by : (has_byte c t ≡ true → (v : ℕ) × (v < length t) × (slice_index t v ≡ c)) → (b : Bool) → (x == c) ≡ b → (b || has_byte c t) ≡ true
        → (v : ℕ) × (v < length (x ∷ t)) × (slice_index (x ∷ t) v ≡ c)
    by rest true e k = (0, omega arith, eqb-true x c e)
    by rest false e k = let at = rest k in (suc at.0, omega (arith, at.1), at.2)

at_table : (t : List ℕ) (v : ℕ) → v < length t → has_byte (slice_index t v) t ≡ true
at_table [] v lt = absurd (omega (arith, lt))
at_table (x ∷ t) zero lt = rw (eq-eqb x x refl) refl
at_table (x ∷ t) (suc v) lt = or_right (x == slice_index t v) (has_byte (slice_index t v) t) (at_table t v (omega (arith, lt)))

-- a name is spelled in lower-case digits
digits_lower : (x : List ℕ) → AreBytes x → list_all is_lower_digit (spell_hex x) ≡ true
unfolding encode_with
digits_lower [] are = refl
digits_lower (b ∷ x) are =
    let small : b < 256 = are 0 in
    and_from _ _ (at_table lower_digits (b / 16) (omega (arith, small)))
    (and_from _ _ (at_table lower_digits (b % 16) (omega arith)) (digits_lower x (λ i. are (suc i))))

length_hex : (x : List ℕ) → length (spell_hex x) ≡ 2 * length x
unfolding encode_with
length_hex [] = refl
length_hex (b ∷ x) = omega (arith, length_hex x)

bytes_cons : (b : ℕ) (x : List ℕ) → b < 256 → AreBytes x → AreBytes (b ∷ x)
bytes_cons b x small are zero = small
bytes_cons b x small are (suc i) = are i

spell_cons : (b : ℕ) (x : List ℕ) → spell_hex (b ∷ x) ≡ slice_index lower_digits (b / 16) ∷ slice_index lower_digits (b % 16) ∷ spell_hex x
unfolding encode_with
spell_cons b x = refl

spell_none : spell_hex [] ≡ []
unfolding encode_with
spell_none = refl

-- lower-case digits spell bytes, two a byte
pub spelled : (n : ℕ) (ds : List ℕ) → length ds ≡ 2 * n → list_all is_lower_digit ds ≡ true → (x : List ℕ) × (length x ≡ n) × AreBytes x × (spell_hex x ≡ ds)
spelled zero [] long lower = ([], refl, (λ i. omega arith), spell_none)
spelled zero (a ∷ ds) long lower = absurd (omega (arith, long))
spelled (suc n) [] long lower = absurd (omega (arith, long))
spelled (suc n) (a ∷ []) long lower = absurd (omega (arith, long))
spelled (suc n) (a ∷ b ∷ ds) long lower =
    let first = and_parts (is_lower_digit a) (is_lower_digit b && list_all is_lower_digit ds) lower in
    let second = and_parts (is_lower_digit b) (list_all is_lower_digit ds) first.1 in
    let high = in_table a lower_digits first.0 in
    let low = in_table b lower_digits second.0 in
    let rest = spelled n ds (omega (arith, long)) second.1 in
    let byte : ℕ = high.0 * 16 + low.0 in
    let is_high : byte / 16 ≡ high.0 = omega (arith, low.1) in
    let is_low : byte % 16 ≡ low.0 = omega (arith, low.1) in (
      byte ∷ rest.0,
      omega (arith, rest.1),
      bytes_cons byte rest.0 (omega (arith, high.1, low.1)) rest.2,
      spell_cons byte rest.0 ∙ rw (is_high, is_low, high.2, low.2, rest.3) refl,
    )

zeros_lower : (n : ℕ) → list_all is_lower_digit (replicate n 48) ≡ true
zeros_lower zero = refl
zeros_lower (suc n) = zeros_lower n

-- at most 64 lower-case digits are a front of a name's
pub hash_front : (ds : List ℕ) → length ds ≤ 64 → list_all is_lower_digit ds ≡ true → (team : List ℕ) × (more : List ℕ) × IsHash team × (spell_hex team ≡ ds ++ more)
hash_front ds short lower =
    let more = replicate (64 - length ds) 48 in
    let long : length (ds ++ more) ≡ 2 * 32 = omega (arith, short, length-append ds more, length-replicate {A = ℕ} (64 - length ds) 48) in
    let all : list_all is_lower_digit (ds ++ more) ≡ true = list_all-append is_lower_digit ds more ∙ and_from _ _ lower (zeros_lower (64 - length ds)) in
    let team = spelled 32 (ds ++ more) long all in
    (team.0, more, record { size = team.1; bytes = team.2 }, team.3)

-- and a front of a name's digits is at most 64 lower-case digits
pub front_hash : (team ds more : List ℕ) → IsHash team → spell_hex team ≡ ds ++ more → (length ds ≤ 64) × (list_all is_lower_digit ds ≡ true)
front_hash team ds more is e = (
  omega (arith, is.size, length_hex team, ap length e, length-append ds more),
  (and_parts (list_all is_lower_digit ds) (list_all is_lower_digit more)
      (sym (list_all-append is_lower_digit ds more) ∙ ap (list_all is_lower_digit) (sym e) ∙ digits_lower team is.bytes)).0,
)

pub length_name : (team : List ℕ) → IsHash team → length (spell_hex team) ≡ 64
length_name team is = omega (arith, is.size, length_hex team)

-- one to nine digits, the first not a zero unless it is the only one
pub record IsShortNumeral (ds : List ℕ) : Type 0 where
  pub digits : all_ascii_digits ds ≡ true
  pub some : 0 < length ds
  pub short : length ds ≤ 9
  pub lead : get_or ds 0 0 ≡ 48 → length ds ≡ 1

pub numeral_of : (n : ℕ) → n < 10 ^ 9 → IsShortNumeral (spell_decimal n)
numeral_of n small =
    let fits : n < 2 ^ 64 = omega (arith, small) in
    record {
      digits = digits_decimal (numerals_by_value (λ ds. all_ascii_digits ds ≡ true) tells_all_ascii_digits) n fits;
      some = decimal_nonempty n fits;
      short = length-decimal-le 9 n (omega arith) small fits;
      lead = lead n fits;
    }
  where
    lead : (m : ℕ) → m < 2 ^ 64 → get_or (spell_decimal m) 0 0 ≡ 48 → length (spell_decimal m) ≡ 1
    lead zero fits e = ap length (decimal_digit 0 (omega arith))
    lead (suc m) fits e = absurd (omega (arith, e, first_decimal (suc m) (omega arith) fits))

pub of_numeral : (ds : List ℕ) → IsShortNumeral ds → (n : ℕ) × (n < 10 ^ 9) × (spell_decimal n ≡ ds)
of_numeral ds is =
    let model = numerals_by_value (λ d. all_ascii_digits d ≡ true) tells_all_ascii_digits in
    let small = digits_value_short model ds 9 is.digits is.short in
    (digits_value 10 ds, small, decimal-digits_value model ds is.digits is.some is.lead (omega (arith, small)))

-- a front of a numeral is one, unless it is empty
pub numeral_front : (ds more : List ℕ) → IsShortNumeral (ds ++ more) → 0 < length ds → IsShortNumeral ds
numeral_front [] more is some = absurd (omega arith)
numeral_front (d ∷ ds) more is some = record {
  digits = digits_front (d ∷ ds) more is.digits;
  some = some;
  short = omega (arith, is.short, length-append (d ∷ ds) more);
  lead = λ e. omega (arith, is.lead e, length-append ds more);
}
  where
    digits_front : (xs ys : List ℕ) → all_ascii_digits (xs ++ ys) ≡ true → all_ascii_digits xs ≡ true
    digits_front [] ys e = refl
    digits_front (x ∷ xs) ys e = let parts = and_parts _ (all_ascii_digits (xs ++ ys)) e in and_from _ _ parts.0 (digits_front xs ys parts.1)
