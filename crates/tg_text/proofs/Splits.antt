-- A text is cut at the first of a byte in one way.
use Rattle.std.proofs.Common.{◌≡◌, ℕ, ◌==◌, Bool, true, false, ◌&&◌, ◌||◌, nat_eq, List, [], ◌∷◌, ◌++◌, refl, sym, ap, ◌∙◌, true≢false}
use Rattle.std.specs.Cmp.Lexicographic.{pointwise}
use Rattle.std.proofs.lemmas.Bool.{eq-eqb}
use Rattle.std.proofs.lemmas.List.Folds.{list_any-append}
use Rattle.tg_text.specs.Spelling.{has_byte}
use Rattle.tg_text.proofs.Lists.{head_is, neither, same_list, tail_is}

not_first : (c b : ℕ) (bs : List ℕ) → c ≡ b → has_byte c (b ∷ bs) ≡ false → ⊥
not_first c b bs e none = true≢false (rw (eq-eqb b c (sym e)) at none)

-- neither of two texts that are cut there holds the byte before the cut: so they are cut alike
pub one_split : (c : ℕ) (a b x y : List ℕ) → has_byte c a ≡ false → has_byte c b ≡ false → a ++ c ∷ x ≡ b ++ c ∷ y → (a ≡ b) × (x ≡ y)
one_split c [] [] x y ha hb e = (refl, tail_is _ _ _ _ e)
one_split c [] (b ∷ bs) x y ha hb e = absurd (not_first c b bs (head_is _ _ _ _ e) hb)
one_split c (a ∷ r) [] x y ha hb e = absurd (not_first c a r (sym (head_is _ _ _ _ e)) ha)
one_split c (a ∷ r) (b ∷ bs) x y ha hb e =
    let rest = one_split c r bs x y (neither _ _ ha).1 (neither _ _ hb).1 (tail_is _ _ _ _ e) in
    (same_list a b r bs (head_is _ _ _ _ e) rest.0, rest.1)

pub has_one : (c : ℕ) (a x : List ℕ) → has_byte c (a ++ c ∷ x) ≡ true
has_one c [] x = rw (eq-eqb c c refl) refl
has_one c (a ∷ r) x = elim (a == c) as (λ b. (b || has_byte c (r ++ c ∷ x)) ≡ true) [ true ↦ refl | false ↦ has_one c r x ]

-- a text without the byte isn't cut
pub no_split : (c : ℕ) (text a x : List ℕ) → has_byte c text ≡ false → text ≡ a ++ c ∷ x → ⊥
no_split c text a x none e = true≢false (sym (ap (has_byte c) e ∙ has_one c a x) ∙ none)

-- the byte stands in neither of two texts, so not in both together
pub lacks_append : (c : ℕ) (a b : List ℕ) → has_byte c a ≡ false → has_byte c b ≡ false → has_byte c (a ++ b) ≡ false
lacks_append c a b ha hb = rw (list_any-append (λ x. x == c) a b, ha, hb) refl

-- whether a text begins with another, to tell two words apart by computing
unfoldable pub begins : List ℕ → List ℕ → Bool
begins [] text = true
begins (c ∷ front) [] = false
begins (c ∷ front) (x ∷ text) = (x == c) && begins front text

-- a text that was found to be another than b isn't b
pub other_word : (a b : List ℕ) → pointwise nat_eq a b ≡ false → pointwise nat_eq b b ≡ true → a ≡ b → ⊥
other_word a b different same e = true≢false (sym (ap (λ (w : List ℕ). pointwise nat_eq w b) e ∙ same) ∙ different)
