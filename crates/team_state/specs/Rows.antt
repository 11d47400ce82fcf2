-- Rows with a key each, at their places in the order of their keys.
use Rattle.std.specs.Prelude.{◌≡◌, Bool, not, List, ◌++◌, filter, find, map, Option}
use Rattle.std.specs.List.{AllByRecursion}
use Rattle.std.specs.List.Sorted.{IsStrictlySortedBy}
use Rattle.std.specs.Ordering.{is_lt}
use Rattle.std.specs.declared.cmp.Ordering.{Ordering}
use Rattle.std.specs.declared.cmp.Ordering.TheVariants.{Less, Equal, Greater}
use Rattle.team_sets.specs.Names.{put_in}

module _ {A K : Type 0} (order : K → K → Ordering) (key : A → K) where
  -- the keys ascend, so no two rows have one key
  abbrev pub Ascend : List A → Type 0
  Ascend rows = IsStrictlySortedBy order (map key rows)

  -- whether a row belongs before another
  abbrev pub is_before : A → A → Bool
  is_before a b = is_lt (order (key a) (key b))

  abbrev pub AreBelow : K → List A → Type 0
  AreBelow k rows = AllByRecursion (λ row. order (key row) k ≡ Less) rows

  abbrev pub AreAt : K → List A → Type 0
  AreAt k rows = AllByRecursion (λ row. order (key row) k ≡ Equal) rows

  abbrev pub AreAbove : K → List A → Type 0
  AreAbove k rows = AllByRecursion (λ row. order (key row) k ≡ Greater) rows

  -- the rows are those below a key, those that have it, and those above
  pub record IsSplit (k : K) (rows below at above : List A) : Type 0 where
    pub is : rows ≡ below ++ (at ++ above)
    pub are_below : AreBelow k below
    pub are_at : AreAt k at
    pub are_above : AreAbove k above

module _ {A K : Type 0} (same : K → K → Bool) (key : A → K) where
  -- the rows without those that have the key
  abbrev pub without_key : K → List A → List A
  without_key k rows = filter (λ row. not (same (key row) k)) rows

  -- the first row that has the key, if there is one
  abbrev pub row_with : K → List A → Option A
  row_with k rows = find (λ row. same (key row) k) rows

module _ {A K : Type 0} (order : K → K → Ordering) (same : K → K → Bool) (key : A → K) where
  -- the rows with this one in the place of the row that has its key, or else at its place in the order
  abbrev pub with_row : A → List A → List A
  with_row row rows = put_in (is_before order key) row (without_key same key (key row) rows)
