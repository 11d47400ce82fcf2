-- Rows of one table seen as rows of another, and tables one behind another.
use Rattle.std.proofs.Common.{◌≡◌, ℕ, suc, ◌-◌, Bool, true, false, not, cond, List, [], ◌∷◌, ◌++◌, map, take, length, refl, ◌∙◌, ap, inr, arith, length-append}
use Rattle.std.specs.List.{AllByRecursion}
use Rattle.std.specs.List.Sorted.{IsStrictlySortedBy}
use Rattle.std.specs.Ordering.{is_lt}
use Rattle.std.specs.declared.cmp.Ordering.{Ordering}
use Rattle.std.specs.declared.cmp.Ordering.TheVariants.{Less}
use Rattle.team_sets.specs.Members.{IsIn}
use Rattle.team_sets.specs.Names.{put_in}
use Rattle.team_state.specs.Rows.{Ascend, is_before, with_row, without_key}

module _ {X : Type 0} where
  pub all_of_map : {Y : Type 0} (P : X → Type 0) (f : Y → X) (ys : List Y) → ((y : Y) → P (f y)) → AllByRecursion P (map f ys)
  all_of_map P f [] p = tt
  all_of_map P f (y ∷ ys) p = (p y, all_of_map P f ys p)

  pub all_put_in : (P : X → Type 0) (before : X → X → Bool) (x : X) (ys : List X) → P x → AllByRecursion P ys → AllByRecursion P (put_in before x ys)
  all_put_in P before x [] p all = (p, tt)
  all_put_in P before x (y ∷ ys) p all = go (before x y) (all_put_in P before x ys p all.1)
    where
      go : (b : Bool) → AllByRecursion P (put_in before x ys) → AllByRecursion P (cond b (x ∷ y ∷ ys) (y ∷ put_in before x ys))
      go true more = (p, all)
      go false more = (all.0, more)

  pub in_back : (xs ys : List X) (x : X) → IsIn x ys → IsIn x (xs ++ ys)
  in_back [] ys x k = k
  in_back (z ∷ zs) ys x k = inr (in_back zs ys x k)

  pub map-append : {Y : Type 0} (f : X → Y) (xs ys : List X) → map f (xs ++ ys) ≡ map f xs ++ map f ys
  map-append f [] ys = refl
  map-append f (x ∷ xs) ys = ap (λ rest. f x ∷ rest) (map-append f xs ys)

  pub length-of-map : {Y : Type 0} (f : X → Y) (xs : List X) → length (map f xs) ≡ length xs
  length-of-map f [] = refl
  length-of-map f (x ∷ xs) = ap suc (length-of-map f xs)

  take_front : (xs ys : List X) → take (length xs) (xs ++ ys) ≡ xs
  take_front [] ys = refl
  take_front (x ∷ xs) ys = ap (λ rest. x ∷ rest) (take_front xs ys)

  -- what stands before the last n of a list
  pub take-without : (xs ys : List X) (n : ℕ) → length ys ≡ n → take (length (xs ++ ys) - n) (xs ++ ys) ≡ xs
  take-without xs ys n e =
      let count : length (xs ++ ys) - n ≡ length xs = omega (arith, length-append xs ys, e) in
      rw count (take_front xs ys)

-- tables one behind another
module _ {A K : Type 0} (order : K → K → Ordering) (key : A → K) where
  pub AreBefore : List A → List A → Type 0
  AreBefore xs ys = AllByRecursion (λ x. AllByRecursion (λ y. order (key x) (key y) ≡ Less) ys) xs

  all_keys_of : (P : K → Type 0) (xs ys : List A) → AllByRecursion P (map key xs) → AllByRecursion (λ y. P (key y)) ys → AllByRecursion P (map key (xs ++ ys))
  all_keys_of P [] [] p q = tt
  all_keys_of P [] (y ∷ ys) p q = (q.0, all_keys_of P [] ys p q.1)
  all_keys_of P (x ∷ xs) ys p q = (p.0, all_keys_of P xs ys p.1 q)

  pub append-ascends : (xs ys : List A) → Ascend order key xs → Ascend order key ys → AreBefore xs ys → Ascend order key (xs ++ ys)
  unfolding IsStrictlySortedBy AreBefore
  append-ascends [] ys up over cross = over
  append-ascends (x ∷ xs) ys up over cross = (all_keys_of (λ k. order (key x) k ≡ Less) xs ys up.0 cross.0, append-ascends xs ys up.1 over cross.1)

  pub all-before : (xs ys : List A) → AllByRecursion (λ x. AllByRecursion (λ y. order (key x) (key y) ≡ Less) ys) xs → AreBefore xs ys
  unfolding AreBefore
  all-before xs ys all = all

-- rows of one table seen as rows of another
module _ {A K B L : Type 0} (order : K → K → Ordering) (same : K → K → Bool) (key : A → K) (order' : L → L → Ordering) (same' : L → L → Bool) (key' : B → L) (f : A → B)
    (orders : (a b : A) → order' (key' (f a)) (key' (f b)) ≡ order (key a) (key b)) where
  all_less_map : (x : A) (ys : List A) → AllByRecursion (λ k. order (key x) k ≡ Less) (map key ys) → AllByRecursion (λ k. order' (key' (f x)) k ≡ Less) (map key' (map f ys))
  all_less_map x [] all = tt
  all_less_map x (y ∷ ys) all = (orders x y ∙ all.0, all_less_map x ys all.1)

  pub map-ascends : (xs : List A) → Ascend order key xs → Ascend order' key' (map f xs)
  unfolding IsStrictlySortedBy
  map-ascends [] up = tt
  map-ascends (x ∷ xs) up = (all_less_map x xs up.0, map-ascends xs up.1)

  put_in_map : (row : A) (xs : List A) → put_in (is_before order' key') (f row) (map f xs) ≡ map f (put_in (is_before order key) row xs)
  put_in_map row [] = refl
  put_in_map row (x ∷ xs) = go (is_before order key row x) (ap is_lt (orders row x)) (put_in_map row xs)
    where
      go : (b : Bool) → is_before order' key' (f row) (f x) ≡ b → put_in (is_before order' key') (f row) (map f xs) ≡ map f (put_in (is_before order key) row xs)
          → put_in (is_before order' key') (f row) (f x ∷ map f xs) ≡ map f (cond b (row ∷ x ∷ xs) (x ∷ put_in (is_before order key) row xs))
      go true e rest = rw e refl
      go false e rest = rw e (ap (λ more. f x ∷ more) rest)

  pub without-map : (k : K) (l : L) → ((a : A) → same' (key' (f a)) l ≡ same (key a) k) → (xs : List A) → without_key same' key' l (map f xs) ≡ map f (without_key same key k xs)
  without-map k l sames [] = refl
  without-map k l sames (x ∷ xs) = go (not (same (key x) k)) (ap not (sames x)) (without-map k l sames xs)
    where
      go : (b : Bool) → not (same' (key' (f x)) l) ≡ b → without_key same' key' l (map f xs) ≡ map f (without_key same key k xs)
          → without_key same' key' l (f x ∷ map f xs) ≡ map f (cond b (x ∷ without_key same key k xs) (without_key same key k xs))
      go true e rest = rw e (ap (λ more. f x ∷ more) rest)
      go false e rest = rw e rest

  pub with-map : (row : A) → ((a : A) → same' (key' (f a)) (key' (f row)) ≡ same (key a) (key row)) → (xs : List A) → with_row order' same' key' (f row) (map f xs) ≡ map f (with_row order same key row xs)
  with-map row sames xs =
      ap (put_in (is_before order' key') (f row)) (without-map (key row) (key' (f row)) sames xs) ∙ put_in_map row (without_key same key (key row) xs)
