-- A graph under other names.
use Rattle.std.proofs.Common.{◌≡◌, ℕ, zero, suc, ◌+◌, max, Bool, true, false, not, ◌&&◌, ◌||◌, cond, List, [], ◌∷◌, map, filter, fold, refl, sym, ◌∙◌, ap, inl, inr, length}
use Rattle.std.specs.List.{list_any}
use Rattle.std.proofs.lemmas.List.{length-map}
use Rattle.team_sets.specs.Names.{Name, same_name, has_name}
use Rattle.team_sets.specs.Members.{IsIn}
use Rattle.team_sets.specs.Ancestry.{are_concurrent, height, height_within, is_before, is_before_within, named}
use Rattle.team_sets.proofs.OrderLeast.{of_filter}
use Rattle.ancestry.specs.Renaming.{RenamedStandAlike, Renames, StandAlike}

module _ {A B : Type 0} where
  filter-map : (p : B → Bool) (q : A → Bool) (f : A → B) (xs : List A) → ((x : A) → IsIn x xs → p (f x) ≡ q x) → filter p (map f xs) ≡ map f (filter q xs)
  filter-map p q f [] h = refl
  filter-map p q f (x ∷ xs) h = rw (h x (inl refl)) (go (q x) (filter-map p q f xs (λ y k. h y (inr k))))
    where
      go : (b : Bool) → filter p (map f xs) ≡ map f (filter q xs) → cond b (f x ∷ filter p (map f xs)) (filter p (map f xs)) ≡ map f (cond b (x ∷ filter q xs) (filter q xs))
      go true e = ap (λ l. f x ∷ l) e
      go false e = e

  any-map : (p : B → Bool) (q : A → Bool) (f : A → B) (xs : List A) → ((x : A) → IsIn x xs → p (f x) ≡ q x) → list_any p (map f xs) ≡ list_any q xs
  any-map p q f [] h = refl
  any-map p q f (x ∷ xs) h = rw (h x (inl refl), any-map p q f xs (λ y k. h y (inr k))) refl

  most-map : (g : B → ℕ) (h : A → ℕ) (f : A → B) (xs : List A) → ((x : A) → IsIn x xs → g (f x) ≡ h x) → (n : ℕ)
      → fold (λ m p. max m (g p + 1)) n (map f xs) ≡ fold (λ m p. max m (h p + 1)) n xs
  most-map g h f [] is n = refl
  most-map g h f (x ∷ xs) is n =
      ap (λ v. fold (λ m p. max m (g p + 1)) (max n (v + 1)) (map f xs)) (is x (inl refl)) ∙ most-map g h f xs (λ y k. is y (inr k)) (max n (h x + 1))

module _ {A B : Type 0} (name : A → Name) (prev : A → List Name) (other_name : B → Name) (other_prev : B → List Name) (f : A → B) (links : List A)
    (renames : Renames name prev other_name other_prev f links) where
  named-alike : (x : A) → IsIn x links → named other_name other_prev (map f links) (other_prev (f x)) ≡ map f (named name prev links (prev x))
  named-alike x k = filter-map (λ y. has_name (other_prev (f x)) (other_name y)) (λ y. has_name (prev x) (name y)) f links (λ y j. renames.parents x y k j)

  of-named : (x y : A) → IsIn y (named name prev links (prev x)) → IsIn y links
  of-named x y k = (of_filter (λ z. has_name (prev x) (name z)) y links k).0

  before-alike : (n : ℕ) (a x : A) → IsIn a links → IsIn x links
      → is_before_within other_name other_prev n (map f links) (other_name (f a)) (f x) ≡ is_before_within name prev n links (name a) x
  before-alike zero a x j k = refl
  before-alike (suc n) a x j k =
      ap (λ b. b || list_any (is_before_within other_name other_prev n (map f links) (other_name (f a))) (named other_name other_prev (map f links) (other_prev (f x)))) (renames.parents x a k j)
      ∙ ap (λ l. has_name (prev x) (name a) || list_any (is_before_within other_name other_prev n (map f links) (other_name (f a))) l) (named-alike x k)
      ∙ ap (λ b. has_name (prev x) (name a) || b)
      (any-map (is_before_within other_name other_prev n (map f links) (other_name (f a))) (is_before_within name prev n links (name a)) f (named name prev links (prev x))
      (λ y i. before-alike n a y j (of-named x y i)))

  height-alike : (n : ℕ) (x : A) → IsIn x links → height_within other_name other_prev n (map f links) (f x) ≡ height_within name prev n links x
  height-alike zero x k = refl
  height-alike (suc n) x k =
      ap (λ l. fold (λ m p. max m (height_within other_name other_prev n (map f links) p + 1)) 0 l) (named-alike x k)
      ∙ most-map (height_within other_name other_prev n (map f links)) (height_within name prev n links) f (named name prev links (prev x)) (λ y i. height-alike n y (of-named x y i)) 0

  all-before : (a x : A) → IsIn a links → IsIn x links → is_before other_name other_prev (map f links) (other_name (f a)) (f x) ≡ is_before name prev links (name a) x
  all-before a x j k =
      ap (λ n. is_before_within other_name other_prev n (map f links) (other_name (f a)) (f x)) (length-map links f) ∙ before-alike (length links) a x j k

  pub stand-alike : (x y : A) → IsIn x links → IsIn y links → StandAlike name prev other_name other_prev f links x y
  stand-alike x y j k = record {
    before = all-before x y j k;
    beside = rw (renames.names x y j k, all-before x y j k, all-before y x k j) refl;
    heights = ap (λ n. height_within other_name other_prev n (map f links) (f y)) (length-map links f) ∙ height-alike (length links) y k;
  }

pub renamed-stand-alike : {A B : Type 0} (name : A → Name) (prev : A → List Name) (other_name : B → Name) (other_prev : B → List Name) → RenamedStandAlike name prev other_name other_prev
renamed-stand-alike name prev other_name other_prev f links renames x y j k = stand-alike name prev other_name other_prev f links renames x y j k
