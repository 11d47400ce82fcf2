-- The two type numbers of a key, with a space between them.
use Rattle.std.proofs.Common.{◌≡◌, ℕ, ◌≤◌, ◌<◌, ◌^◌, false, List, ◌∷◌, ◌++◌, Option, None, Some, refl, sym, ◌∙◌, arith}
use Rattle.std.specs.Option.{option_map_or}
use Rattle.tg_text.specs.Reading.{Reads}
use Rattle.tg_text.specs.Spelling.{has_newline, has_space, spell_decimal}
use Rattle.tg_text.proofs.Splits.{one_split, lacks_append}
use Rattle.tg_text.proofs.FieldLaws.{decimal_lacks, decimal_once}
use Rattle.lms_tree.specs.LmsKinds.{lms_kind, leaves_of}
use Rattle.lms_tree.specs.declared.lms_kind.LmsKind.{LmsKind}
use Rattle.lms_tree.specs.declared.lms_kind.LmsKind.TheVariants.{H5, H10, H15, H20, H25}
use Rattle.lms_keep.specs.KeyText.{AreKinds, kinds_field, leaves}

pub kinds_lack : (lms ots : ℕ) → AreKinds lms ots → has_newline (kinds_field lms ots) ≡ false
kinds_lack lms ots is =
    lacks_append 10 (spell_decimal lms) (32 ∷ spell_decimal ots) (decimal_lacks 10 lms refl (omega (arith, is.1))) (decimal_lacks 10 ots refl (omega (arith, is.3)))

kinds_cut : (front back : List ℕ) (lms ots : ℕ) → has_space front ≡ false → AreKinds lms ots → front ++ 32 ∷ back ≡ kinds_field lms ots
    → (front ≡ spell_decimal lms) × (back ≡ spell_decimal ots)
kinds_cut front back lms ots none is e = one_split 32 front (spell_decimal lms) back (spell_decimal ots) none (decimal_lacks 32 lms refl (omega (arith, is.1))) e

pub kinds_once : (a b c d : ℕ) → AreKinds a b → AreKinds c d → kinds_field a b ≡ kinds_field c d → (a ≡ c) × (b ≡ d)
kinds_once a b c d is other e =
    let cut = kinds_cut (spell_decimal a) (spell_decimal b) c d (decimal_lacks 32 a refl (omega (arith, is.1))) other e in (
      decimal_once a c (omega (arith, is.1)) (omega (arith, other.1)) cut.0,
      decimal_once b d (omega (arith, is.3)) (omega (arith, other.3)) cut.1,
    )

pub none_some : {A : Type 0} (x : A) (o : Option A) → o ≡ None → o ≡ Some x → ⊥
none_some x o e f = let h : ◌≡◌ {A = Option _} None (Some x) = sym e ∙ f in cc

same_pair : (a b : ℕ) (k : ℕ × ℕ) → Some a ≡ Some k.0 → Some b ≡ Some k.1 → Some (a, b) ≡ Some k
same_pair a b (c, d) h g = cc

-- the fields of the kinds are read one by one
pub no_lms : (text front back : List ℕ) (o : Option ℕ) → has_space front ≡ false → text ≡ front ++ 32 ∷ back → Reads (λ n. (5 ≤ n) × (n ≤ 7)) spell_decimal front o → o ≡ None
    → Reads (λ (k : ℕ × ℕ). AreKinds k.0 k.1) (λ (k : ℕ × ℕ). kinds_field k.0 k.1) text None
no_lms text front back o none e lms is_none = record {
  found = tt;
  only = λ k is w. absurd (none_some k.0 o is_none (lms.only k.0 (is.0, is.1) (kinds_cut front back k.0 k.1 none is (sym e ∙ w)).0));
}

pub no_ots : (text front back : List ℕ) (o : Option ℕ) → has_space front ≡ false → text ≡ front ++ 32 ∷ back → Reads (λ n. (1 ≤ n) × (n ≤ 4)) spell_decimal back o → o ≡ None
    → Reads (λ (k : ℕ × ℕ). AreKinds k.0 k.1) (λ (k : ℕ × ℕ). kinds_field k.0 k.1) text None
no_ots text front back o none e ots is_none = record {
  found = tt;
  only = λ k is w. absurd (none_some k.1 o is_none (ots.only k.1 (is.2, is.3) (kinds_cut front back k.0 k.1 none is (sym e ∙ w)).1));
}

pub both_kinds : (text front back : List ℕ) (a b : ℕ) → has_space front ≡ false → text ≡ front ++ 32 ∷ back → Reads (λ n. (5 ≤ n) × (n ≤ 7)) spell_decimal front (Some a)
    → Reads (λ n. (1 ≤ n) × (n ≤ 4)) spell_decimal back (Some b) → Reads (λ (k : ℕ × ℕ). AreKinds k.0 k.1) (λ (k : ℕ × ℕ). kinds_field k.0 k.1) text (Some (a, b))
both_kinds text front back a b none e lms ots = record {
  found = ((lms.found.0.0, lms.found.0.1, ots.found.0.0, ots.found.0.1), rw (e, lms.found.1, ots.found.1) refl);
  only = λ k is w.
      let cut = kinds_cut front back k.0 k.1 none is (sym e ∙ w) in
      same_pair a b k (lms.only k.0 (is.0, is.1) cut.0) (ots.only k.1 (is.2, is.3) cut.1);
}

few_leaves : (o : Option LmsKind) → option_map_or leaves_of o 0 < 2 ^ 32
few_leaves None = omega arith
few_leaves (Some H5) = omega arith
few_leaves (Some H10) = omega arith
few_leaves (Some H15) = omega arith
few_leaves (Some H20) = omega arith
few_leaves (Some H25) = omega arith

pub leaves_fit : (lms : ℕ) → leaves lms < 2 ^ 32
leaves_fit lms = few_leaves (lms_kind lms)
