-- Lists with one more at the end, tests of what stands in lists, and places in them.
use Rattle.std.proofs.Common.{◌≡◌, ℕ, zero, suc, ◌+◌, ◌<◌, Bool, true, false, ◌||◌, cond, List, [], ◌∷◌, ◌++◌, filter, length, take, slice_get, Option, Some, None, refl, ◌∙◌, ap, inl, inr, add-one, arith}
use Rattle.std.specs.List.{list_any}
use Rattle.std.specs.Cmp.Lexicographic.{nat_list_eq_equiv}
use Rattle.std.proofs.lemmas.List.Elements.{filter-append}
use Rattle.std.proofs.lemmas.List.Folds.{list_any-append}
use Rattle.team_sets.specs.Names.{Name, has_name, same_name}
use Rattle.team_sets.specs.Members.{IsIn}

pub or_false : (b : Bool) → (b || false) ≡ b
or_false true = refl
or_false false = refl

pub or_assoc : (a b c : Bool) → ((a || b) || c) ≡ (a || (b || c))
or_assoc true b c = refl
or_assoc false b c = refl

pub same_flip : (a b : Name) → same_name a b ≡ same_name b a
same_flip a b = nat_list_eq_equiv.symm a b

pub has_name-any : (ms : List Name) (n : Name) → list_any (λ m. same_name m n) ms ≡ has_name ms n
has_name-any [] n = refl
has_name-any (m ∷ ms) n = ap (λ b. same_name m n || b) (has_name-any ms n)

module _ {A : Type 0} where
  pub filter_end : (p : A → Bool) (xs : List A) (x : A) (b : Bool) → p x ≡ b → filter p (xs ++ x ∷ []) ≡ filter p xs ++ cond b (x ∷ []) []
  filter_end p xs x b e = filter-append p xs (x ∷ []) ∙ ap (λ c. filter p xs ++ cond c (x ∷ []) []) e

  pub any_end : (p : A → Bool) (xs : List A) (x : A) → list_any p (xs ++ x ∷ []) ≡ (list_any p xs || p x)
  any_end p xs x = list_any-append p xs (x ∷ []) ∙ ap (λ b. list_any p xs || b) (or_false (p x))

  -- tests that agree on what stands in a list
  pub any_alike : (p q : A → Bool) (xs : List A) → ((x : A) → IsIn x xs → p x ≡ q x) → list_any p xs ≡ list_any q xs
  any_alike p q [] h = refl
  any_alike p q (x ∷ xs) h = rw (h x (inl refl)) (ap (λ b. q x || b) (any_alike p q xs (λ y k. h y (inr k))))

  pub filter_alike : (p q : A → Bool) (xs : List A) → ((x : A) → IsIn x xs → p x ≡ q x) → filter p xs ≡ filter q xs
  filter_alike p q [] h = refl
  filter_alike p q (x ∷ xs) h = rw (h x (inl refl)) (go (q x) (filter_alike p q xs (λ y k. h y (inr k))))
    where
      go : (b : Bool) → filter p xs ≡ filter q xs → cond b (x ∷ filter p xs) (filter p xs) ≡ cond b (x ∷ filter q xs) (filter q xs)
      go true e = ap (λ l. x ∷ l) e
      go false e = e

  pub some_at : (xs : List A) (p : ℕ) → p < length xs → (x : A) × (slice_get xs p ≡ Some x)
  some_at [] p h = absurd (omega arith)
  some_at (y ∷ ys) zero h = (y, refl)
  some_at (y ∷ ys) (suc p) h = some_at ys p (omega arith)

  pub take_next : (xs : List A) (k : ℕ) (x : A) → slice_get xs k ≡ Some x → take (k + 1) xs ≡ take k xs ++ x ∷ []
  take_next [] k x e = absurd (let bad : ◌≡◌ {A = Option A} None (Some x) = e in cc)
  take_next (y ∷ ys) zero x e = let same : y ≡ x = cc in rw same refl
  take_next (y ∷ ys) (suc k) x e = rw add-one (ap (λ l. y ∷ l) (rw add-one at (take_next ys k x e)))
