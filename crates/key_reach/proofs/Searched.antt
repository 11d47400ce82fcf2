-- What a search in an ascending list says, and what sorting and dropping repeats keep.
use Rattle.std.proofs.Common.{◌≡◌, ℕ, Bool, true, false, ◌||◌, cond, List, [], ◌∷◌, Result, Ok, Err, refl, sym, ◌∙◌, ap, inl, inr, ◌⊎◌, length, get_or, ◌≤◌, ◌<◌, arith}
use Rattle.std.specs.List.{list_any, dedup, dedup_from}
use Rattle.std.specs.List.Sorted.{IsStrictlySortedBy, IsBinarySearchResult, IsSearchInRange, IsNonDecreasingBy, IsPartitionPoint}
use Rattle.std.specs.Cmp.{IsTotalOrder, IsEquivalence}
use Rattle.std.specs.Result.{is_ok}
use Rattle.std.specs.Ordering.{eq_by_cmp, is_eq, ordering_index, ordering_reverse}
use Rattle.std.specs.declared.cmp.Ordering.{Ordering}
use Rattle.std.specs.declared.cmp.Ordering.TheVariants.{Less, Equal, Greater}
use Rattle.std.proofs.lemmas.Bool.{false≢true, cases_lt}
use Rattle.std.proofs.Math.Nat.{eq-or-lt_of_le}
use Rattle.std.proofs.lemmas.List.Elements.{All-from_all_within}
use Rattle.std.proofs.lemmas.List.Folds.{list_any_at, list_any_none}
use Rattle.std.proofs.lemmas.Map.Keys.{Less-from_sorted}

or_twice : (a b : Bool) → (a || (a || b)) ≡ (a || b)
or_twice true b = refl
or_twice false b = refl

module _ {A : Type 0} (same : A → A → Bool) (laws : IsEquivalence same) where
  any_dedup_from : (k : A) (xs : List A) (x : A) → list_any (same x) (dedup_from same k xs) ≡ (same x k || list_any (same x) xs)
  any_dedup_from k [] x = refl
  any_dedup_from k (y ∷ ys) x = go (same y k) refl (any_dedup_from k ys x) (any_dedup_from y ys x)
    where
      go : (b : Bool) → same y k ≡ b → list_any (same x) (dedup_from same k ys) ≡ (same x k || list_any (same x) ys) → list_any (same x) (dedup_from same y ys) ≡ (same x y || list_any (same x) ys)
          → list_any (same x) (cond b (dedup_from same k ys) (k ∷ dedup_from same y ys)) ≡ (same x k || (same x y || list_any (same x) ys))
      go true e kept rest =
          let alike : same x y ≡ same x k = laws.symm x y ∙ laws.congr y k x e ∙ laws.symm k x in
          rw alike (kept ∙ sym (or_twice (same x k) (list_any (same x) ys)))
      go false e kept rest = ap (λ b. same x k || b) rest

  pub any_dedup : (xs : List A) (x : A) → list_any (same x) (dedup same xs) ≡ list_any (same x) xs
  any_dedup [] x = refl
  any_dedup (y ∷ ys) x = any_dedup_from y ys x

module _ {A : Type 0} (cmp : A → A → Ordering) (order : IsTotalOrder cmp) where
  greater_turned : (x y : A) → cmp x y ≡ Greater → cmp y x ≡ Less
  greater_turned x y e = order.antisymm y x ∙ ap ordering_reverse e

  less_turned : (x y : A) → cmp x y ≡ Less → cmp y x ≡ Greater
  less_turned x y e = order.antisymm y x ∙ ap ordering_reverse e

  equal_turned : (x y : A) → cmp x y ≡ Equal → cmp y x ≡ Equal
  equal_turned x y e = order.antisymm y x ∙ ap ordering_reverse e

  at_most_two : (r : Ordering) → ordering_index r ≤ 2
  at_most_two Less = omega arith
  at_most_two Equal = omega arith
  at_most_two Greater = omega arith

  index_rises : (a b x : A) → cmp a b ≡ Less → ordering_index (cmp a x) ≤ ordering_index (cmp b x)
  index_rises a b x less = go (cmp b x) refl
    where
      go : (r : Ordering) → cmp b x ≡ r → ordering_index (cmp a x) ≤ ordering_index r
      go Less e = rw (order.trans a b x less e) (omega arith)
      go Equal e = rw (greater_turned x a (sym (order.congr b x a e) ∙ less_turned a b less)) (omega arith)
      go Greater e = at_most_two (cmp a x)

  rises : (xs : List A) (x : A) → IsStrictlySortedBy cmp xs → IsNonDecreasingBy (λ y. ordering_index (cmp y x)) xs
  rises xs x up i j d le lt = go (eq-or-lt_of_le le)
    where
      go : (i ≡ j) ⊎ (i < j) → ordering_index (cmp (get_or xs i d) x) ≤ ordering_index (cmp (get_or xs j d) x)
      go (inr less) = index_rises (get_or xs i d) (get_or xs j d) x (Less-from_sorted cmp xs i j d up less lt)
      go (inl e) = rw e (omega arith)

  differs : (x y : A) (r : Ordering) → cmp y x ≡ r → (r ≡ Equal → ⊥) → eq_by_cmp cmp x y ≡ false
  differs x y Less e other = ap is_eq (less_turned y x e)
  differs x y Equal e other = absurd (other refl)
  differs x y Greater e other = ap is_eq (greater_turned y x e)

  less_equal : Less ≡ Equal → ⊥
  less_equal e = false≢true (ap is_eq e)

  greater_equal : Greater ≡ Equal → ⊥
  greater_equal e = false≢true (ap is_eq e)

  pub searched_is : (xs : List A) (x : A) (r : Result ℕ ℕ) → IsStrictlySortedBy cmp xs → IsSearchInRange r (length xs) → IsBinarySearchResult (λ y. cmp y x) xs r
      → is_ok r ≡ list_any (eq_by_cmp cmp x) xs
  searched_is xs x (Ok i) up within found = sym (list_any_at (eq_by_cmp cmp x) xs i x within (ap is_eq (equal_turned (get_or xs i x) x (found x))))
  searched_is xs x (Err i) up within found = sym (list_any_none (eq_by_cmp cmp x) xs (All-from_all_within (λ y. eq_by_cmp cmp x y ≡ false) xs each))
    where
      point : IsPartitionPoint (λ y. cmp y x ≡ Less) (λ y. cmp y x ≡ Greater) xs i
      point = found (rises xs x up)

      each : (k : ℕ) (d : A) → 0 ≤ k → k < length xs → eq_by_cmp cmp x (get_or xs k d) ≡ false
      each k d low high = go (cases_lt k i)
        where
          go : (k < i) ⊎ (i ≤ k) → eq_by_cmp cmp x (get_or xs k d) ≡ false
          go (inl lt) = differs x (get_or xs k d) Less (point.0 k d low lt) less_equal
          go (inr le) = differs x (get_or xs k d) Greater (point.1 k d le high) greater_equal

  -- the same with the order's own test and another that agrees with it
  pub any_ties : (same : A → A → Bool) → ((x y : A) → same x y ≡ eq_by_cmp cmp x y) → (xs : List A) (x : A) → list_any (same x) xs ≡ list_any (eq_by_cmp cmp x) xs
  any_ties same ties [] x = refl
  any_ties same ties (y ∷ ys) x = rw (ties x y, any_ties same ties ys x) refl
