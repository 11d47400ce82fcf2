-- Which bytes stand in no field, and that each spelling is that of one value.
use Rattle.std.proofs.Common.{◌≡◌, ℕ, zero, suc, ◌+◌, ◌*◌, ◌/◌, ◌%◌, ◌<◌, ◌^◌, ◌==◌, Bool, true, false, ◌&&◌, ◌||◌, List, [], ◌∷◌, length, slice_index, replicate, nat_le, refl, sym, ap, ◌∙◌, true≢false, IsTrue}
use Rattle.std.specs.Str.{all_ascii_digits}
use Rattle.std.specs.Char.{is_ascii_digit}
use Rattle.std.specs.List.{list_all}
use Rattle.std.proofs.lemmas.Bool.{eqb-true}
use Rattle.std.proofs.lemmas.Fmt.{digits_decimal, decimal_injective}
use Rattle.std.proofs.lemmas.Str.Parse.{numerals_by_value, tells_all_ascii_digits}
use Rattle.hex.specs.Hex.{encode_with, lower_digits}
use Rattle.hex.proofs.HexLemmas.{decode_of-encode_lower}
use Rattle.base64.specs.Engines.{standard}
use Rattle.base64.specs.Rfc4648.{encode_symbols, padding_len}
use Rattle.base64.proofs.EngineFacts.{decode_of-encode_of}
use Rattle.tg_text.specs.Spelling.{AreBytes, IsTitle, begins_well, has_byte, is_name_byte, is_printing, is_user_name, spell_base64, spell_decimal, spell_hex}
use Rattle.tg_text.proofs.Lists.{neither}
use Rattle.tg_text.proofs.Splits.{lacks_append}

both : (b c : Bool) → (b && c) ≡ true → (b ≡ true) × (c ≡ true)
both true c h = (refl, h)
both false c h = absurd (true≢false (sym h))

both_lack : (b c : Bool) → b ≡ false → c ≡ false → (b || c) ≡ false
both_lack true c hb hc = hb
both_lack false c hb hc = hc

-- what passes a test that a byte doesn't pass lacks that byte
lacks : (p : ℕ → Bool) (f : List ℕ → Bool) (c : ℕ) → ((x : ℕ) (xs : List ℕ) → f (x ∷ xs) ≡ (p x && f xs)) → p c ≡ false → (xs : List ℕ) → f xs ≡ true → has_byte c xs ≡ false
lacks p f c step none [] e = refl
lacks p f c step none (x ∷ xs) e =
    let parts = both (p x) (f xs) (sym (step x xs) ∙ e) in
    by_test (x == c) refl parts.0 (lacks p f c step none xs parts.1)
  where
    by_test : (b : Bool) → (x == c) ≡ b → p x ≡ true → has_byte c xs ≡ false → (b || has_byte c xs) ≡ false
    by_test true h passed rest = absurd (true≢false (sym passed ∙ ap p (eqb-true x c h) ∙ none))
    by_test false h passed rest = rest

pub decimal_lacks : (c n : ℕ) → is_ascii_digit c ≡ false → n < 2 ^ 64 → has_byte c (spell_decimal n) ≡ false
decimal_lacks c n none small =
    lacks is_ascii_digit all_ascii_digits c (λ _ _. refl) none (spell_decimal n) (digits_decimal (numerals_by_value (λ ds. all_ascii_digits ds ≡ true) tells_all_ascii_digits) n small)

-- an element of a table, or the 0 past its end
index_lacks : (c : ℕ) (t : List ℕ) (i : ℕ) → has_byte c (0 ∷ t) ≡ false → (slice_index t i == c) ≡ false
index_lacks c [] i none = (neither _ _ none).0
index_lacks c (x ∷ t) zero none = (neither _ _ (neither _ _ none).1).0
index_lacks c (x ∷ t) (suc i) none =
    let parts = neither (0 == c) (has_byte c (x ∷ t)) none in
    index_lacks c t i (both_lack (0 == c) (has_byte c t) parts.0 (neither (x == c) (has_byte c t) parts.1).1)

two_lack : (c a b : ℕ) (rest : List ℕ) → (a == c) ≡ false → (b == c) ≡ false → has_byte c rest ≡ false → has_byte c (a ∷ b ∷ rest) ≡ false
two_lack c a b rest ha hb none = rw (ha, hb) none

digits_lack : (c : ℕ) (t xs : List ℕ) → has_byte c (0 ∷ t) ≡ false → has_byte c (encode_with t xs) ≡ false
unfolding encode_with
digits_lack c t [] none = refl
digits_lack c t (x ∷ xs) none = two_lack c _ _ _ (index_lacks c t _ none) (index_lacks c t _ none) (digits_lack c t xs none)

pub hex_lacks : (c : ℕ) (x : List ℕ) → has_byte c (0 ∷ lower_digits) ≡ false → has_byte c (spell_hex x) ≡ false
hex_lacks c x none = digits_lack c lower_digits x none

symbols_lack : (c : ℕ) (t xs : List ℕ) → has_byte c (0 ∷ t) ≡ false → has_byte c (encode_symbols t xs) ≡ false
unfolding encode_symbols
symbols_lack c t [] none = refl
symbols_lack c t (x ∷ []) none = two_lack c _ _ [] (index_lacks c t _ none) (index_lacks c t _ none) refl
symbols_lack c t (x ∷ y ∷ []) none =
    let third = y % 16 * 4 in
    two_lack c _ _ (slice_index t third ∷ []) (index_lacks c t _ none) (index_lacks c t _ none) (both_lack _ _ (index_lacks c t third none) refl)
symbols_lack c t (x ∷ y ∷ z ∷ xs) none =
    let third = y % 16 * 4 + z / 64 in
    let fourth = z % 64 in
    two_lack c _ _ (slice_index t third ∷ slice_index t fourth ∷ encode_symbols t xs) (index_lacks c t _ none) (index_lacks c t _ none)
    (two_lack c _ _ (encode_symbols t xs) (index_lacks c t third none) (index_lacks c t fourth none) (symbols_lack c t xs none))

copies_lack : (c b n : ℕ) → (b == c) ≡ false → has_byte c (replicate n b) ≡ false
copies_lack c b zero none = refl
copies_lack c b (suc n) none = rw none (copies_lack c b n none)

pub base64_lacks : (c : ℕ) (x : List ℕ) → has_byte c (0 ∷ standard.encode_table) ≡ false → (61 == c) ≡ false → has_byte c (spell_base64 x) ≡ false
base64_lacks c x none pad =
    lacks_append c (encode_symbols standard.encode_table x) (replicate (padding_len (length x)) 61) (symbols_lack c standard.encode_table x none) (copies_lack c 61 (padding_len (length x)) pad)

pub name_lacks : (c : ℕ) (name : List ℕ) → is_name_byte c ≡ false → IsTrue (is_user_name name) → has_byte c name ≡ false
name_lacks c name none is =
    lacks is_name_byte (list_all is_name_byte) c (λ _ _. refl) none name (both (nat_le (length name) 32 && begins_well name) (list_all is_name_byte name) is).1

pub title_lacks : (c : ℕ) (title : List ℕ) → is_printing c ≡ false → IsTitle title → has_byte c title ≡ false
title_lacks c title none is = lacks is_printing (list_all is_printing) c (λ _ _. refl) none title is.printing

pub decimal_once : (m n : ℕ) → m < 2 ^ 64 → n < 2 ^ 64 → spell_decimal m ≡ spell_decimal n → m ≡ n
decimal_once m n = decimal_injective m n

pub hex_once : (x y : List ℕ) → AreBytes x → AreBytes y → spell_hex x ≡ spell_hex y → x ≡ y
hex_once x y bx by e =
    cc (decode_of-encode_lower x bx, decode_of-encode_lower y by)

pub base64_once : (x y : List ℕ) → AreBytes x → AreBytes y → spell_base64 x ≡ spell_base64 y → x ≡ y
base64_once x y bx by e =
    cc (decode_of-encode_of standard x refl bx, decode_of-encode_of standard y refl by)
