-- Rows in the order of a number stand side by side where they have the same number.
use Rattle.std.proofs.Common.{◌≡◌, ℕ, ◌+◌, ◌<◌, ◌≤◌, Bool, true, false, List, [], ◌∷◌, ◌++◌, refl, sym, ◌∙◌, ap, length, get_or, take, drop, filter, eqb, ltb, leb, arith, length-take, length-drop, append-nil}
use Rattle.std.specs.List.{All}
use Rattle.std.specs.List.Sorted.{IsPartitionPoint}
use Rattle.std.proofs.lemmas.Bool.{ltb-false, leb-true, leb-false, ltb-true, eq-eqb, ne_eqb}
use Rattle.std.proofs.lemmas.List.{take-append-drop, get_or-take, get_or-drop}
use Rattle.std.proofs.lemmas.List.Elements.{filter-append, All-head, All-tail}

pub filter-none : {A : Type 0} (p : A → Bool) (xs : List A) → All (λ x. p x ≡ false) xs → filter p xs ≡ []
filter-none p [] all = refl
filter-none p (x ∷ xs) all = rw (All-head (λ y. p y ≡ false) x xs all) (filter-none p xs (All-tail (λ y. p y ≡ false) x xs all))

pub filter-all : {A : Type 0} (p : A → Bool) (xs : List A) → All (λ x. p x ≡ true) xs → filter p xs ≡ xs
filter-all p [] all = refl
filter-all p (x ∷ xs) all = rw (All-head (λ y. p y ≡ true) x xs all) (ap (λ l. x ∷ l) (filter-all p xs (All-tail (λ y. p y ≡ true) x xs all)))

module _ {A : Type 0} (n : A → ℕ) (t : ℕ) where
  pub run-is : (xs : List A) (i k : ℕ) → i ≤ length xs → k ≤ length (drop i xs)
      → IsPartitionPoint (λ y. ltb (n y) t ≡ true) (λ y. ltb (n y) t ≡ false) xs i
      → IsPartitionPoint (λ y. leb (n y) t ≡ true) (λ y. leb (n y) t ≡ false) (drop i xs) k
      → take k (drop i xs) ≡ filter (λ y. eqb (n y) t) xs
  run-is xs i k within more below upto =
      sym (ap (λ l. filter same l) (sym (take-append-drop i xs)) ∙ filter-append same (take i xs) (drop i xs)
      ∙ ap (λ l. l ++ filter same (drop i xs)) (filter-none same (take i xs) first)
      ∙ ap (λ l. filter same l) (sym (take-append-drop k (drop i xs))) ∙ filter-append same (take k (drop i xs)) (drop k (drop i xs))
      ∙ ap (λ l. l ++ filter same (drop k (drop i xs))) (filter-all same (take k (drop i xs)) middle)
      ∙ ap (λ l. take k (drop i xs) ++ l) (filter-none same (drop k (drop i xs)) last) ∙ append-nil (take k (drop i xs)))
    where
      same : A → Bool
      same y = eqb (n y) t

      first : All (λ y. same y ≡ false) (take i xs)
      first j d lt =
          let low : j < i = omega (arith, rw length-take at lt) in
          let less = ltb-true (n (get_or xs j d)) t (below.0 j d (omega arith) low) in
          rw (get_or-take i xs j d low) (ne_eqb (n (get_or xs j d)) t (λ e. omega (arith, less, e)))

      middle : All (λ y. same y ≡ true) (take k (drop i xs))
      middle j d lt =
          let low : j < k = omega (arith, rw length-take at lt) in
          let at = leb-true (n (get_or (drop i xs) j d)) t (upto.0 j d (omega arith) low) in
          let under = rw length-drop at more in
          let high = ltb-false (n (get_or xs (i + j) d)) t (below.1 (i + j) d (omega arith) (omega (arith, low, under, within))) in
          let high' = rw (← get_or-drop i xs j d) at high in
          rw (get_or-take k (drop i xs) j d low) (eq-eqb (n (get_or (drop i xs) j d)) t (omega (arith, at, high')))

      last : All (λ y. same y ≡ false) (drop k (drop i xs))
      last j d lt =
          let within' : k + j < length (drop i xs) = omega (arith, rw length-drop at lt, more) in
          let above = leb-false (n (get_or (drop i xs) (k + j) d)) t (upto.1 (k + j) d (omega arith) within') in
          rw (get_or-drop k (drop i xs) j d) (ne_eqb (n (get_or (drop i xs) (k + j) d)) t (λ e. omega (arith, above, e)))
