-- The ancestors of a position ascend, and a search tells which they are.
use Rattle.std.proofs.Common.{◌≡◌, ℕ, zero, suc, ◌+◌, Bool, true, false, cond, List, [], ◌∷◌, Result, Ok, Err, filter, refl, sym, ◌∙◌, ap, inl, inr, ◌⊎◌, length, get_or, ◌≤◌, ◌<◌, arith, eqb, ltb}
use Rattle.std.specs.List.{list_any, range_with_len, AllByRecursion}
use Rattle.std.specs.List.Sorted.{IsBinarySearchResult, IsStrictlySortedBy}
use Rattle.std.specs.Ordering.{is_lt, is_eq, nat_cmp}
use Rattle.std.specs.Result.{is_ok, MatchResult}
use Rattle.std.specs.declared.cmp.Ordering.{Ordering}
use Rattle.std.specs.declared.cmp.Ordering.TheVariants.{Less, Equal, Greater}
use Rattle.std.proofs.lemmas.Bool.{false≢true, cases_lt, eq-eqb, lt-ltb, ltb-true, ne_eqb}
use Rattle.std.proofs.lemmas.List.{get_or_default}
use Rattle.std.proofs.lemmas.List.Folds.{list_any_at, list_any_none}
use Rattle.std.proofs.lemmas.List.Kept.{IsStrictlySortedBy-filter}
use Rattle.std.proofs.lemmas.List.Sorted.{searched}
use Rattle.std.proofs.lemmas.Map.Keys.{Less-from_sorted}
use Rattle.std.proofs.Math.Nat.{eq-or-lt_of_le}
use Rattle.team_sets.specs.Members.{IsIn}
use Rattle.team_sets.proofs.Ancestors.{all_of}
use Rattle.ancestry.specs.Positions.{Parents, comes_before, past_of, positions}
use Rattle.ancestry.specs.Rows.{has_number}
use Rattle.ancestry.proofs.Pasts.{range-within}

less-of : (a b : ℕ) → a < b → nat_cmp a b ≡ Less
less-of a b lt = rw (lt-ltb a b lt) refl

less-is : (a b : ℕ) → nat_cmp a b ≡ Less → a < b
less-is a b e = go (ltb a b) refl e
  where
    other : (c : Bool) → cond c Equal Greater ≡ Less → ⊥
    other true h = absurd (false≢true (ap is_lt h))
    other false h = absurd (false≢true (ap is_lt h))

    go : (c : Bool) → ltb a b ≡ c → cond c Less (cond (eqb a b) Equal Greater) ≡ Less → a < b
    go true is h = ltb-true a b is
    go false is h = absurd (other (eqb a b) h)

range-sorted : (k n : ℕ) → IsStrictlySortedBy nat_cmp (range_with_len k n)
unfolding IsStrictlySortedBy
range-sorted k zero = tt
range-sorted k (suc n) = (
  all_of (λ y. nat_cmp k y ≡ Less) (range_with_len (k + 1) n) (λ y j. less-of k y (let m : k + 1 ≤ y = (range-within (k + 1) n y j).0 in omega (arith, m))),
  range-sorted (k + 1) n,
)

pub past-sorted : (graph : Parents) (b : ℕ) → IsStrictlySortedBy nat_cmp (past_of graph b)
past-sorted graph b = IsStrictlySortedBy-filter nat_cmp (λ a. comes_before graph a b) (positions graph) (range-sorted 0 (length graph))

rises : (xs : List ℕ) → IsStrictlySortedBy nat_cmp xs → (i j : ℕ) → i ≤ j → j < length xs → get_or xs i 0 ≤ get_or xs j 0
rises xs up i j le lt = go (eq-or-lt_of_le le)
  where
    go : (i ≡ j) ⊎ (i < j) → get_or xs i 0 ≤ get_or xs j 0
    go (inl e) = rw e (omega arith)
    go (inr less) = let h : get_or xs i 0 < get_or xs j 0 = less-is (get_or xs i 0) (get_or xs j 0) (Less-from_sorted nat_cmp xs i j 0 up less lt) in omega (arith, h)

pub searched-is : (xs : List ℕ) (x : ℕ) (r : Result ℕ ℕ) → IsStrictlySortedBy nat_cmp xs → IsBinarySearchResult (λ y. nat_cmp y x) xs r → is_ok r ≡ has_number xs x
searched-is xs x r up found = go r (searched xs x r found (rises xs up))
  where
    apart : (k i : ℕ) (d : ℕ) → k < length xs → ((k : ℕ) → k < i → get_or xs k 0 < x) → ((k : ℕ) → i ≤ k → k < length xs → x < get_or xs k 0) → (k < i) ⊎ (i ≤ k) → eqb x (get_or xs k d) ≡ false
    apart k i d lt low high (inl under) =
        ne_eqb x (get_or xs k d) (λ e. let h : get_or xs k 0 < x = low k under in let same : get_or xs k d ≡ get_or xs k 0 = get_or_default xs k d 0 lt in absurd (omega (arith, h, same, e)))
    apart k i d lt low high (inr over) =
        ne_eqb x (get_or xs k d) (λ e. let h : x < get_or xs k 0 = high k over lt in let same : get_or xs k d ≡ get_or xs k 0 = get_or_default xs k d 0 lt in absurd (omega (arith, h, same, e)))

    go : (r : Result ℕ ℕ) → MatchResult r (λ i. (i < length xs) × (get_or xs i 0 ≡ x)) (λ i. (i ≤ length xs) × ((k : ℕ) → k < i → get_or xs k 0 < x) × ((k : ℕ) → i ≤ k → k < length xs → x < get_or xs k 0))
        → is_ok r ≡ has_number xs x
    go (Ok i) m = sym (list_any_at (eqb x) xs i 0 m.0 (eq-eqb x (get_or xs i 0) (sym m.1)))
    go (Err i) m = sym (list_any_none (eqb x) xs (λ k d lt. apart k i d lt m.1 m.2 (cases_lt k i)))
