-- What is done to a list and what is done to each of its values, in either order.
use Rattle.std.proofs.Common.{◌≡◌, Bool, true, false, ◌||◌, cond, List, [], ◌∷◌, ◌++◌, filter, find, flat_map, map, Some, refl, sym, ◌∙◌, ap, inl, inr}
use Rattle.std.specs.List.{list_any}
use Rattle.team_sets.specs.Members.{IsIn}
use Rattle.team_sets.specs.Names.{put_in}

module _ {A B : Type 0} where
  pub map_append : (f : A → B) (xs ys : List A) → map f (xs ++ ys) ≡ map f xs ++ map f ys
  map_append f [] ys = refl
  map_append f (x ∷ xs) ys = ap (λ l. f x ∷ l) (map_append f xs ys)

  pub map_alike : (f g : A → B) (xs : List A) → ((x : A) → IsIn x xs → f x ≡ g x) → map f xs ≡ map g xs
  map_alike f g [] same = refl
  map_alike f g (x ∷ xs) same = λ i. same x (inl refl) i ∷ map_alike f g xs (λ y j. same y (inr j)) i

  pub filter_mapped : (f : A → B) (p : A → Bool) (q : B → Bool) (xs : List A) → ((x : A) → IsIn x xs → q (f x) ≡ p x) → filter q (map f xs) ≡ map f (filter p xs)
  filter_mapped f p q [] same = refl
  filter_mapped f p q (x ∷ xs) same =
      ap (λ b. cond b (f x ∷ filter q (map f xs)) (filter q (map f xs))) (same x (inl refl))
      ∙ go (p x) (filter_mapped f p q xs (λ y j. same y (inr j)))
    where
      go : (b : Bool) → filter q (map f xs) ≡ map f (filter p xs) → cond b (f x ∷ filter q (map f xs)) (filter q (map f xs)) ≡ map f (cond b (x ∷ filter p xs) (filter p xs))
      go true more = ap (λ l. f x ∷ l) more
      go false more = more

  pub flat_of_map : {C : Type 0} (f : A → B) (h : B → List C) (xs : List A) → flat_map h (map f xs) ≡ flat_map (λ x. h (f x)) xs
  flat_of_map f h [] = refl
  flat_of_map f h (x ∷ xs) = ap (λ l. h (f x) ++ l) (flat_of_map f h xs)

  pub map_twice : {C : Type 0} (f : A → B) (g : B → C) (xs : List A) → map g (map f xs) ≡ map (λ x. g (f x)) xs
  map_twice f g [] = refl
  map_twice f g (x ∷ xs) = ap (λ l. g (f x) ∷ l) (map_twice f g xs)

  -- what keeps the order keeps places
  pub put_mapped : (f : A → B) (before : A → A → Bool) (after : B → B → Bool) → ((x y : A) → after (f x) (f y) ≡ before x y)
      → (x : A) (ys : List A) → put_in after (f x) (map f ys) ≡ map f (put_in before x ys)
  put_mapped f before after same x [] = refl
  put_mapped f before after same x (y ∷ ys) =
      ap (λ b. cond b (f x ∷ f y ∷ map f ys) (f y ∷ put_in after (f x) (map f ys))) (same x y) ∙ go (before x y) (put_mapped f before after same x ys)
    where
      go : (b : Bool) → put_in after (f x) (map f ys) ≡ map f (put_in before x ys)
          → cond b (f x ∷ f y ∷ map f ys) (f y ∷ put_in after (f x) (map f ys)) ≡ map f (cond b (x ∷ y ∷ ys) (y ∷ put_in before x ys))
      go true more = refl
      go false more = ap (λ l. f y ∷ l) more

module _ {A B C : Type 0} where
  pub flat_alike : (g : A → List B) (h : A → List C) (m : B → C) (xs : List A) → ((x : A) → IsIn x xs → h x ≡ map m (g x)) → flat_map h xs ≡ map m (flat_map g xs)
  flat_alike g h m [] same = refl
  flat_alike g h m (x ∷ xs) same = (λ i. same x (inl refl) i ++ flat_alike g h m xs (λ y j. same y (inr j)) i) ∙ sym (map_append m (g x) (flat_map g xs))

module _ {A : Type 0} where
  pub any_appended : (p : A → Bool) (xs ys : List A) → list_any p (xs ++ ys) ≡ (list_any p xs || list_any p ys)
  any_appended p [] ys = refl
  any_appended p (x ∷ xs) ys = go (p x) (any_appended p xs ys)
    where
      go : (b : Bool) → list_any p (xs ++ ys) ≡ (list_any p xs || list_any p ys) → (b || list_any p (xs ++ ys)) ≡ ((b || list_any p xs) || list_any p ys)
      go true more = refl
      go false more = more

  pub map_fixed : (f : A → A) (xs : List A) → ((x : A) → IsIn x xs → f x ≡ x) → map f xs ≡ xs
  map_fixed f [] fixed = refl
  map_fixed f (x ∷ xs) fixed = λ i. fixed x (inl refl) i ∷ map_fixed f xs (λ y j. fixed y (inr j)) i

  -- where what is found isn't changed
  pub find_mapped : (f : A → A) (p q : A → Bool) (xs : List A) → ((x : A) → IsIn x xs → q (f x) ≡ p x) → ((x : A) → IsIn x xs → p x ≡ true → f x ≡ x) → find q (map f xs) ≡ find p xs
  find_mapped f p q [] same fixed = refl
  find_mapped f p q (x ∷ xs) same fixed =
      ap (λ b. cond b (Some (f x)) (find q (map f xs))) (same x (inl refl)) ∙ go (p x) refl (find_mapped f p q xs (λ y j. same y (inr j)) (λ y j. fixed y (inr j)))
    where
      go : (b : Bool) → p x ≡ b → find q (map f xs) ≡ find p xs → cond b (Some (f x)) (find q (map f xs)) ≡ cond b (Some x) (find p xs)
      go true e more = ap (λ y. Some y) (fixed x (inl refl) e)
      go false e more = more
