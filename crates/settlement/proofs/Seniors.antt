-- In settlement, an act that doesn't stand left at the turn of a more senior one that stands.
use Rattle.std.proofs.Common.{◌≡◌, ℕ, zero, suc, ◌+◌, Bool, true, false, not, cond, List, [], ◌∷◌, filter, fold, refl, sym, ◌∙◌, ap, subst, inl, inr, ◌⊎◌, length, ◌≤◌, arith}
use Rattle.std.specs.List.{AllByRecursion}
use Rattle.team_sets.specs.Members.{IsIn}
use Rattle.team_sets.specs.Names.{ascending, put_in}
use Rattle.team_sets.specs.Settlement.{conflicts, settle, standing}
use Rattle.team_sets.specs.SortedLaws.{AreApart, IsAscending, IsStrict}
use Rattle.team_sets.proofs.Decisions.{stands_as_decided}
use Rattle.team_sets.proofs.OrderLeast.{in_filter}
use Rattle.team_sets.proofs.Pasts.{all_at}
use Rattle.team_sets.proofs.Sorted.{ascending-ascends, ascending-members}
use Rattle.settlement.specs.SeniorLaws.{IsUnmet, StandsUnlessTakenOut, TakesOut}

filter-le : {A : Type 0} (p : A → Bool) (xs : List A) → length (filter p xs) ≤ length xs
filter-le p [] = omega arith
filter-le p (x ∷ xs) = go (p x) (filter-le p xs)
  where
    go : (b : Bool) → length (filter p xs) ≤ length xs → length (cond b (x ∷ filter p xs) (filter p xs)) ≤ suc (length xs)
    go true h = omega arith
    go false h = omega arith

all-filter : {A : Type 0} (P : A → Type 0) (p : A → Bool) (xs : List A) → AllByRecursion P xs → AllByRecursion P (filter p xs)
all-filter P p [] h = tt
all-filter P p (x ∷ xs) h = go (p x) (all-filter P p xs h.1)
  where
    go : (b : Bool) → AllByRecursion P (filter p xs) → AllByRecursion P (cond b (x ∷ filter p xs) (filter p xs))
    go true rest = (h.0, rest)
    go false rest = rest

ascending-filter : {A : Type 0} (before : A → A → Bool) (p : A → Bool) (xs : List A) → IsAscending before xs → IsAscending before (filter p xs)
ascending-filter before p [] up = tt
ascending-filter before p (x ∷ xs) up = go (p x) (ascending-filter before p xs up.1)
  where
    go : (b : Bool) → IsAscending before (filter p xs) → IsAscending before (cond b (x ∷ filter p xs) (filter p xs))
    go true rest = (all-filter (λ y. before x y ≡ true) p xs up.0, rest)
    go false rest = rest

module _ {A : Type 0} (senior strikes : A → A → Bool) where
  length-put_in : (x : A) (xs : List A) → length (put_in senior x xs) ≡ suc (length xs)
  length-put_in x [] = refl
  length-put_in x (y ∷ ys) = go (senior x y) (length-put_in x ys)
    where
      go : (b : Bool) → length (put_in senior x ys) ≡ suc (length ys) → length (cond b (x ∷ y ∷ ys) (y ∷ put_in senior x ys)) ≡ suc (suc (length ys))
      go true h = refl
      go false h = ap suc h

  length-fold : (xs sorted : List A) → length (fold (λ sorted x. put_in senior x sorted) sorted xs) ≡ length sorted + length xs
  length-fold [] sorted = omega arith
  length-fold (x ∷ xs) sorted = let h = length-fold xs (put_in senior x sorted) in let k = length-put_in x sorted in omega arith

  sorted-length : (acts : List A) → length (ascending senior acts) ≤ length acts
  sorted-length acts = let h : length (ascending senior acts) ≡ 0 + length acts = length-fold acts [] in omega (arith, h)

  Leaves : ℕ → List A → A → Type 0
  Leaves n ranked x = IsIn x (settle senior strikes n ranked)
      ⊎ ((s : A) × IsIn s (settle senior strikes n ranked) × (senior s x ≡ true) × (conflicts senior strikes s x ≡ true))

  left : (n : ℕ) (ranked : List A) → length ranked ≤ n → IsAscending senior ranked → (x : A) → IsIn x ranked → Leaves n ranked x
  unfolding Leaves
  left zero [] few up x k = absurd k
  left zero (y ∷ rest) few up x k = absurd (omega (arith, few))
  left (suc n) [] few up x k = absurd k
  left (suc n) (y ∷ rest) few up x (inl e) = inl (inl e)
  left (suc n) (y ∷ rest) few up x (inr k) = go (conflicts senior strikes y x) refl (left n (filter (λ z. not (conflicts senior strikes y z)) rest))
    where
      go : (b : Bool) → conflicts senior strikes y x ≡ b
          → (length (filter (λ z. not (conflicts senior strikes y z)) rest) ≤ n → IsAscending senior (filter (λ z. not (conflicts senior strikes y z)) rest)
          → (x : A) → IsIn x (filter (λ z. not (conflicts senior strikes y z)) rest)
          → IsIn x (settle senior strikes n (filter (λ z. not (conflicts senior strikes y z)) rest))
          ⊎ ((s : A) × IsIn s (settle senior strikes n (filter (λ z. not (conflicts senior strikes y z)) rest)) × (senior s x ≡ true) × (conflicts senior strikes s x ≡ true)))
          → ((y ≡ x) ⊎ IsIn x (settle senior strikes n (filter (λ z. not (conflicts senior strikes y z)) rest)))
          ⊎ ((s : A) × IsIn s (y ∷ settle senior strikes n (filter (λ z. not (conflicts senior strikes y z)) rest)) × (senior s x ≡ true) × (conflicts senior strikes s x ≡ true))
      go true e more = inr (y, inl refl, all_at (λ z. senior y z ≡ true) rest up.0 x k, e)
      go false e more =
          let fewer : length (filter (λ z. not (conflicts senior strikes y z)) rest) ≤ length rest = filter-le (λ z. not (conflicts senior strikes y z)) rest in
          over (more (omega (arith, fewer, few)) (ascending-filter senior (λ z. not (conflicts senior strikes y z)) rest up.1) x (in_filter (λ z. not (conflicts senior strikes y z)) x rest k (ap not e)))
        where
          over : IsIn x (settle senior strikes n (filter (λ z. not (conflicts senior strikes y z)) rest))
              ⊎ ((s : A) × IsIn s (settle senior strikes n (filter (λ z. not (conflicts senior strikes y z)) rest)) × (senior s x ≡ true) × (conflicts senior strikes s x ≡ true))
              → ((y ≡ x) ⊎ IsIn x (settle senior strikes n (filter (λ z. not (conflicts senior strikes y z)) rest)))
              ⊎ ((s : A) × IsIn s (y ∷ settle senior strikes n (filter (λ z. not (conflicts senior strikes y z)) rest)) × (senior s x ≡ true) × (conflicts senior strikes s x ≡ true))
          over (inl j) = inl (inr j)
          over (inr r) = inr (r.0, inr r.1, r.2, r.3)

  pub stands-unless : StandsUnlessTakenOut senior strikes
  unfolding Leaves
  stands-unless strict acts apart x k =
      go (left (length acts) (ascending senior acts) (sorted-length acts) (ascending-ascends senior strict acts apart) x ((ascending-members senior acts).back x k))
    where
      go : IsIn x (settle senior strikes (length acts) (ascending senior acts))
          ⊎ ((s : A) × IsIn s (settle senior strikes (length acts) (ascending senior acts)) × (senior s x ≡ true) × (conflicts senior strikes s x ≡ true))
          → (IsIn x (standing senior strikes acts) × IsUnmet senior strikes acts x) ⊎ ((s : A) × TakesOut senior strikes acts x s)
      go (inl j) = inl (j, λ s i other. (stands_as_decided senior strikes acts).apart s x i j other)
      go (inr r) = inr (r.0, record { stands = r.1; outranks = r.2; meets = r.3 })
