-- Two fields that a space cuts apart are read where each is.
use Rattle.std.proofs.Common.{◌≡◌, ℕ, false, List, ◌∷◌, ◌++◌, Option, Some, None, IfSome, refl, arith}
use Rattle.std.specs.Option.{option_zip}
use Rattle.tg_text.specs.Reading.{Reads}
use Rattle.tg_text.specs.Spelling.{has_space, spell_base64, spell_decimal, spell_hex}
use Rattle.tg_text.proofs.Splits.{one_split}
use Rattle.tg_text.proofs.FieldLaws.{base64_lacks, decimal_lacks, hex_lacks, name_lacks}
use Rattle.acts.specs.ActText.{spell_kind, IsName, IsUses}
use Rattle.acts.specs.Fields.{AreTwo, spell_text, spell_two}
use Rattle.acts.specs.declared.entry.InviteKind.{InviteKind}
use Rattle.acts.specs.declared.entry.InviteKind.TheVariants.{Member, Device}

two_found : {X Y : Type 0} (IsX : X → Type 0) (IsY : Y → Type 0) (spell : X → List ℕ) (spell_next : Y → List ℕ) (front back : List ℕ) (x : Option X) (y : Option Y)
    → IfSome x (λ a. IsX a × (front ≡ spell a)) → IfSome y (λ b. IsY b × (back ≡ spell_next b))
    → IfSome (option_zip x y) (λ p. AreTwo IsX IsY p × (front ++ 32 ∷ back ≡ spell_two spell spell_next p))
two_found IsX IsY spell spell_next front back None y hx hy = tt
two_found IsX IsY spell spell_next front back (Some a) None hx hy = tt
two_found IsX IsY spell spell_next front back (Some a) (Some b) hx hy = ((hx.0, hy.0), rw (hx.1, hy.1) refl)

pub two_read : {X Y : Type 0} (IsX : X → Type 0) (IsY : Y → Type 0) (spell : X → List ℕ) (spell_next : Y → List ℕ) (text front back : List ℕ) (x : Option X) (y : Option Y)
    → ((a : X) → IsX a → has_space (spell a) ≡ false) → has_space front ≡ false → text ≡ front ++ 32 ∷ back → Reads IsX spell front x → Reads IsY spell_next back y
    → Reads (AreTwo IsX IsY) (spell_two spell spell_next) text (option_zip x y)
two_read IsX IsY spell spell_next text front back x y whole lacks cut hx hy = rw cut (record {
  found = two_found IsX IsY spell spell_next front back x y hx.found hy.found;
  only = λ p is e.
      let parts = one_split 32 front (spell p.0) back (spell_next p.1) lacks (whole p.0 is.0) e in
      rw (hx.only p.0 is.0 parts.0, hy.only p.1 is.1 parts.1) refl;
})

pub name_word : (x : List ℕ) → IsName x → has_space (spell_text x) ≡ false
name_word x is = name_lacks 32 x refl is

pub hex_word : (x : List ℕ) → has_space (spell_hex x) ≡ false
hex_word x = hex_lacks 32 x refl

pub key_word : (x : List ℕ) → has_space (spell_base64 x) ≡ false
key_word x = base64_lacks 32 x refl refl

pub uses_word : (n : ℕ) → IsUses n → has_space (spell_decimal n) ≡ false
uses_word n is = decimal_lacks 32 n refl (omega (arith, is.1))

pub kind_word : (k : InviteKind) → has_space (spell_kind k) ≡ false
kind_word Member = refl
kind_word Device = refl
