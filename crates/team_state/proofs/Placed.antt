-- Rows in the order of their keys: where a key stands, and what putting and dropping a row makes.
use Rattle.std.proofs.Common.{◌≡◌, ℕ, zero, suc, ◌+◌, ◌<◌, ◌≤◌, Bool, true, false, not, ◌&&◌, ◌||◌, cond, List, [], ◌∷◌, ◌++◌, map, filter, take, drop, length, get_or, refl, sym, ◌∙◌, ap, set, Result, Ok, Err, IfOk, IfErr, IsOk, if◌then◌else◌, subst, inl, inr, arith, add-one}
use Rattle.std.specs.List.{AllByRecursion, AllWithin, insert, list_any}
use Rattle.std.specs.Result.{is_ok}
use Rattle.std.specs.List.Sorted.{IsStrictlySortedBy, IsBinarySearchResult, IsNonDecreasingBy, IsPartitionPoint, IsSearchInRange}
use Rattle.std.specs.Cmp.{IsTotalOrder, alike_right, tied_itself}
use Rattle.std.specs.Ordering.{eq_by_cmp, is_eq, is_lt, ordering_index, ordering_reverse}
use Rattle.std.specs.declared.cmp.Ordering.{Ordering}
use Rattle.std.specs.declared.cmp.Ordering.TheVariants.{Less, Equal, Greater}
use Rattle.std.proofs.lemmas.Bool.{false≢true}
use Rattle.std.proofs.lemmas.List.{drop-set, take-append-drop, take-set}
use Rattle.std.proofs.lemmas.List.Elements.{filter-append}
use Rattle.std.proofs.lemmas.List.Sorted.{searchable_from_sorted}
use Rattle.team_sets.specs.Members.{IsIn}
use Rattle.team_sets.specs.Names.{put_in}
use Rattle.team_sets.proofs.Pasts.{all_at}
use Rattle.team_state.specs.Rows.{Ascend, AreAbove, AreAt, AreBelow, IsSplit, is_before, with_row, without_key}

module _ {X : Type 0} where
  pub all-append : (P : X → Type 0) (xs ys : List X) → AllByRecursion P xs → AllByRecursion P ys → AllByRecursion P (xs ++ ys)
  all-append P [] ys p q = q
  all-append P (x ∷ xs) ys p q = (p.0, all-append P xs ys p.1 q)

  pub all-filter : (P : X → Type 0) (keep : X → Bool) (xs : List X) → AllByRecursion P xs → AllByRecursion P (filter keep xs)
  all-filter P keep [] p = tt
  all-filter P keep (x ∷ xs) p = go (keep x) (all-filter P keep xs p.1)
    where
      go : (b : Bool) → AllByRecursion P (filter keep xs) → AllByRecursion P (cond b (x ∷ filter keep xs) (filter keep xs))
      go true rest = (p.0, rest)
      go false rest = rest

  pub all-weaker : (P Q : X → Type 0) → ((x : X) → P x → Q x) → (xs : List X) → AllByRecursion P xs → AllByRecursion Q xs
  all-weaker P Q weaker [] p = tt
  all-weaker P Q weaker (x ∷ xs) p = (weaker x p.0, all-weaker P Q weaker xs p.1)

  pub all-map : {Y : Type 0} (P : X → Type 0) (f : Y → X) (ys : List Y) → AllByRecursion (λ y. P (f y)) ys → AllByRecursion P (map f ys)
  all-map P f [] p = tt
  all-map P f (y ∷ ys) p = (p.0, all-map P f ys p.1)

  pub all-unmap : {Y : Type 0} (P : X → Type 0) (f : Y → X) (ys : List Y) → AllByRecursion P (map f ys) → AllByRecursion (λ y. P (f y)) ys
  all-unmap P f [] p = tt
  all-unmap P f (y ∷ ys) p = (p.0, all-unmap P f ys p.1)

  pub filter-all : (keep : X → Bool) (xs : List X) → AllByRecursion (λ x. keep x ≡ true) xs → filter keep xs ≡ xs
  filter-all keep [] p = refl
  filter-all keep (x ∷ xs) p = rw p.0 (ap (λ rest. x ∷ rest) (filter-all keep xs p.1))

  pub filter-none : (keep : X → Bool) (xs : List X) → AllByRecursion (λ x. keep x ≡ false) xs → filter keep xs ≡ []
  filter-none keep [] p = refl
  filter-none keep (x ∷ xs) p = rw p.0 (filter-none keep xs p.1)

  pub filter-twice : (p q : X → Bool) (xs : List X) → filter p (filter q xs) ≡ filter q (filter p xs)
  filter-twice p q [] = refl
  filter-twice p q (x ∷ xs) = go (p x) (q x) refl refl (filter-twice p q xs)
    where
      go : (a b : Bool) → p x ≡ a → q x ≡ b → filter p (filter q xs) ≡ filter q (filter p xs)
          → filter p (cond b (x ∷ filter q xs) (filter q xs)) ≡ filter q (cond a (x ∷ filter p xs) (filter p xs))
      go true true e f rest = rw (e, f) (ap (λ more. x ∷ more) rest)
      go true false e f rest = rw f rest
      go false true e f rest = rw e rest
      go false false e f rest = rest

set_parts : {A : Type 0} (row : A) (xs : List A) (i : ℕ) → i < length xs → set xs i row ≡ take i xs ++ row ∷ drop (i + 1) xs
set_parts row xs i lt = sym (take-append-drop i (set xs i row)) ∙ rw (take-set, drop-set) refl

pub any_agree : {A : Type 0} (p q : A → Bool) → ((x : A) → p x ≡ q x) → (xs : List A) → list_any p xs ≡ list_any q xs
any_agree p q e [] = refl
any_agree p q e (x ∷ xs) = rw (e x, any_agree p q e xs) refl

-- an order that answers what another does
module _ {K : Type 0} (cmp order : K → K → Ordering) (is : (a b : K) → cmp a b ≡ order a b) where
  pub total_is : IsTotalOrder cmp → IsTotalOrder order
  total_is total = subst (λ (o : K → K → Ordering). IsTotalOrder o) (λ i a b. is a b i) total

  pub found_is : {A : Type 0} (key : A → K) (k : K) (xs : List A) (r : Result ℕ ℕ) → IsBinarySearchResult (λ row. cmp (key row) k) xs r → IsBinarySearchResult (λ row. order (key row) k) xs r
  found_is {A} key k xs r found = subst (λ (o : K → K → Ordering). IsBinarySearchResult (λ (row : A). o (key row) k) xs r) (λ i a b. is a b i) found

module _ {A K : Type 0} (order : K → K → Ordering) (same : K → K → Bool) (key : A → K) (total : IsTotalOrder order) (ties : (x y : K) → same x y ≡ eq_by_cmp order x y) where
  abbrev before : A → A → Bool
  before a b = is_before order key a b

  abbrev other : K → A → Bool
  other k row = not (same (key row) k)

  turned : (x y : K) (r : Ordering) → order x y ≡ r → order y x ≡ ordering_reverse r
  turned x y r e = total.antisymm y x ∙ ap ordering_reverse e

  less_other : (k : K) (row : A) → order (key row) k ≡ Less → other k row ≡ true
  less_other k row e = ap not (ties (key row) k ∙ ap is_eq e)

  greater_other : (k : K) (row : A) → order (key row) k ≡ Greater → other k row ≡ true
  greater_other k row e = ap not (ties (key row) k ∙ ap is_eq e)

  equal_same : (k : K) (row : A) → order (key row) k ≡ Equal → other k row ≡ false
  equal_same k row e = ap not (ties (key row) k ∙ ap is_eq e)

  pub drop-below : (k : K) (xs : List A) → AreBelow order key k xs → without_key same key k xs ≡ xs
  drop-below k xs below = filter-all (other k) xs (all-weaker (λ row. order (key row) k ≡ Less) (λ row. other k row ≡ true) (less_other k) xs below)

  pub drop-above : (k : K) (xs : List A) → AreAbove order key k xs → without_key same key k xs ≡ xs
  drop-above k xs above = filter-all (other k) xs (all-weaker (λ row. order (key row) k ≡ Greater) (λ row. other k row ≡ true) (greater_other k) xs above)

  pub drop-at : (k : K) (xs : List A) → AreAt order key k xs → without_key same key k xs ≡ []
  drop-at k xs at = filter-none (other k) xs (all-weaker (λ row. order (key row) k ≡ Equal) (λ row. other k row ≡ false) (equal_same k) xs at)

  put-below : (row : A) (xs ys : List A) → AreBelow order key (key row) xs → put_in before row (xs ++ ys) ≡ xs ++ put_in before row ys
  put-below row [] ys below = refl
  put-below row (x ∷ xs) ys below = rw (turned (key x) (key row) Less below.0) (ap (λ rest. x ∷ rest) (put-below row xs ys below.1))

  put-above : (row : A) (ys : List A) → AreAbove order key (key row) ys → put_in before row ys ≡ row ∷ ys
  put-above row [] above = refl
  put-above row (y ∷ ys) above = rw (turned (key y) (key row) Greater above.0) refl

  put-before : (row : A) (xs ys : List A) → AreAbove order key (key row) ys → put_in before row (xs ++ ys) ≡ put_in before row xs ++ ys
  put-before row [] ys above = put-above row ys above
  put-before row (x ∷ xs) ys above = go (before row x) (put-before row xs ys above)
    where
      go : (b : Bool) → put_in before row (xs ++ ys) ≡ put_in before row xs ++ ys → cond b (row ∷ x ∷ (xs ++ ys)) (x ∷ put_in before row (xs ++ ys)) ≡ cond b (row ∷ x ∷ xs) (x ∷ put_in before row xs) ++ ys
      go true rest = refl
      go false rest = ap (λ more. x ∷ more) rest

  -- behind rows that are below it, and ahead of rows that are above it, a row is put among the rest
  pub with-prefix : (row : A) (xs ys : List A) → AreBelow order key (key row) xs → with_row order same key row (xs ++ ys) ≡ xs ++ with_row order same key row ys
  with-prefix row xs ys below =
      ap (put_in before row) (filter-append (other (key row)) xs ys ∙ ap (λ front. front ++ without_key same key (key row) ys) (drop-below (key row) xs below))
      ∙ put-below row xs (without_key same key (key row) ys) below

  pub with-suffix : (row : A) (xs ys : List A) → AreAbove order key (key row) ys → with_row order same key row (xs ++ ys) ≡ with_row order same key row xs ++ ys
  with-suffix row xs ys above =
      ap (put_in before row) (filter-append (other (key row)) xs ys ∙ ap (λ back. without_key same key (key row) xs ++ back) (drop-above (key row) ys above))
      ∙ put-before row (without_key same key (key row) xs) ys above

  pub without-prefix : (k : K) (xs ys : List A) → AreBelow order key k xs → without_key same key k (xs ++ ys) ≡ xs ++ without_key same key k ys
  without-prefix k xs ys below = filter-append (other k) xs ys ∙ ap (λ front. front ++ without_key same key k ys) (drop-below k xs below)

  pub without-suffix : (k : K) (xs ys : List A) → AreAbove order key k ys → without_key same key k (xs ++ ys) ≡ without_key same key k xs ++ ys
  without-suffix k xs ys above = filter-append (other k) xs ys ∙ ap (λ back. without_key same key k xs ++ back) (drop-above k ys above)

  -- what a split says
  pub with-split : (row : A) (xs below at above : List A) → IsSplit order key (key row) xs below at above → with_row order same key row xs ≡ below ++ row ∷ above
  with-split row xs below at above split =
      ap (with_row order same key row) split.is
      ∙ with-prefix row below (at ++ above) split.are_below
      ∙ ap (λ rest. below ++ rest)
      (with-suffix row at above split.are_above ∙ ap (λ mid. put_in before row mid ++ above) (drop-at (key row) at split.are_at))

  pub without-split : (k : K) (xs below at above : List A) → IsSplit order key k xs below at above → without_key same key k xs ≡ below ++ above
  without-split k xs below at above split =
      ap (without_key same key k) split.is
      ∙ without-prefix k below (at ++ above) split.are_below
      ∙ ap (λ rest. below ++ rest) (without-suffix k at above split.are_above ∙ ap (λ mid. mid ++ above) (drop-at k at split.are_at))

  -- the order is kept
  below_by : (x y : K) (row : A) → order y (key row) ≡ Less → order x y ≡ Less → order x (key row) ≡ Less
  below_by x y row e f = total.trans x y (key row) f e

  all_put : (P : K → Type 0) (row : A) (ys : List A) → P (key row) → AllByRecursion P (map key ys) → AllByRecursion P (map key (put_in before row ys))
  all_put P row [] p all = (p, tt)
  all_put P row (y ∷ ys) p all = go (before row y) (all_put P row ys p all.1)
    where
      go : (b : Bool) → AllByRecursion P (map key (put_in before row ys)) → AllByRecursion P (map key (cond b (row ∷ y ∷ ys) (y ∷ put_in before row ys)))
      go true more = (p, all)
      go false more = (all.0, more)

  put_ascends : (row : A) (ys : List A) → Ascend order key ys → AllByRecursion (λ y. other (key row) y ≡ true) ys → Ascend order key (put_in before row ys)
  unfolding IsStrictlySortedBy
  put_ascends row [] up others = (tt, tt)
  put_ascends row (y ∷ ys) up others = go (order (key row) (key y)) refl (put_ascends row ys up.1 others.1)
    where
      go : (r : Ordering) → order (key row) (key y) ≡ r → Ascend order key (put_in before row ys) → Ascend order key (cond (is_lt r) (row ∷ y ∷ ys) (y ∷ put_in before row ys))
      go Less e more = ((e, all-weaker (λ z. order (key y) z ≡ Less) (λ z. order (key row) z ≡ Less) (λ z f. total.trans (key row) (key y) z e f) (map key ys) up.0), up)
      go Equal e more = absurd (false≢true (sym (ap not (ties (key y) (key row) ∙ ap is_eq (turned (key row) (key y) Equal e))) ∙ others.0))
      go Greater e more = (all_put (λ z. order (key y) z ≡ Less) row ys (turned (key row) (key y) Greater e) up.0, more)

  filter_passes : (keep : A → Bool) (xs : List A) → AllByRecursion (λ x. keep x ≡ true) (filter keep xs)
  filter_passes keep [] = tt
  filter_passes keep (x ∷ xs) = go (keep x) refl (filter_passes keep xs)
    where
      go : (b : Bool) → keep x ≡ b → AllByRecursion (λ y. keep y ≡ true) (filter keep xs) → AllByRecursion (λ y. keep y ≡ true) (cond b (x ∷ filter keep xs) (filter keep xs))
      go true e rest = (e, rest)
      go false e rest = rest

  all_filter_keys : (P : K → Type 0) (keep : A → Bool) (xs : List A) → AllByRecursion P (map key xs) → AllByRecursion P (map key (filter keep xs))
  all_filter_keys P keep xs all = all-map P key (filter keep xs) (all-filter (λ x. P (key x)) keep xs (all-unmap P key xs all))

  pub filter-ascends : (keep : A → Bool) (xs : List A) → Ascend order key xs → Ascend order key (filter keep xs)
  unfolding IsStrictlySortedBy
  filter-ascends keep [] up = tt
  filter-ascends keep (x ∷ xs) up = go (keep x) (filter-ascends keep xs up.1)
    where
      go : (b : Bool) → Ascend order key (filter keep xs) → Ascend order key (cond b (x ∷ filter keep xs) (filter keep xs))
      go true rest = (all_filter_keys (λ z. order (key x) z ≡ Less) keep xs up.0, rest)
      go false rest = rest

  pub with-ascends : (row : A) (xs : List A) → Ascend order key xs → Ascend order key (with_row order same key row xs)
  with-ascends row xs up = put_ascends row (without_key same key (key row) xs) (filter-ascends (other (key row)) xs up) (filter_passes (other (key row)) xs)

  pub without-ascends : (k : K) (xs : List A) → Ascend order key xs → Ascend order key (without_key same key k xs)
  without-ascends k xs up = filter-ascends (other k) xs up

  -- a filter that keeps the row, and one that doesn't
  put_filtered : (keep : A → Bool) (row : A) (ys : List A) → Ascend order key ys → keep row ≡ true → filter keep (put_in before row ys) ≡ put_in before row (filter keep ys)
  unfolding IsStrictlySortedBy
  put_filtered keep row [] up kept = rw kept refl
  put_filtered keep row (y ∷ ys) up kept = go (order (key row) (key y)) refl (keep y) refl (put_filtered keep row ys up.1 kept)
    where
      above : order (key row) (key y) ≡ Less → AreAbove order key (key row) (filter keep ys)
      above e = all-filter (λ z. order (key z) (key row) ≡ Greater) keep ys
          (all-weaker (λ z. order (key y) (key z) ≡ Less) (λ z. order (key z) (key row) ≡ Greater) (λ z f. turned (key row) (key z) Less (total.trans (key row) (key y) (key z) e f)) ys (all-unmap (λ z. order (key y) z ≡ Less) key ys up.0))

      go : (r : Ordering) → order (key row) (key y) ≡ r → (b : Bool) → keep y ≡ b → filter keep (put_in before row ys) ≡ put_in before row (filter keep ys)
          → filter keep (cond (is_lt r) (row ∷ y ∷ ys) (y ∷ put_in before row ys)) ≡ put_in before row (cond b (y ∷ filter keep ys) (filter keep ys))
      go Less e true f rest = rw (kept, f, e) refl
      go Less e false f rest = rw (kept, f) (sym (put-above row (filter keep ys) (above e)))
      go Equal e true f rest = rw (f, e) (ap (λ more. y ∷ more) rest)
      go Equal e false f rest = rw f rest
      go Greater e true f rest = rw (f, e) (ap (λ more. y ∷ more) rest)
      go Greater e false f rest = rw f rest

  put_left_out : (keep : A → Bool) (row : A) (ys : List A) → keep row ≡ false → filter keep (put_in before row ys) ≡ filter keep ys
  put_left_out keep row [] out = rw out refl
  put_left_out keep row (y ∷ ys) out = go (before row y) (put_left_out keep row ys out)
    where
      go : (b : Bool) → filter keep (put_in before row ys) ≡ filter keep ys → filter keep (cond b (row ∷ y ∷ ys) (y ∷ put_in before row ys)) ≡ filter keep (y ∷ ys)
      go true rest = rw out refl
      go false rest = ap (λ more. cond (keep y) (y ∷ more) more) rest

  pub filter-with : (keep : A → Bool) (row : A) (xs : List A) → Ascend order key xs → keep row ≡ true → filter keep (with_row order same key row xs) ≡ with_row order same key row (filter keep xs)
  filter-with keep row xs up kept =
      put_filtered keep row (without_key same key (key row) xs) (without-ascends (key row) xs up) kept ∙ ap (put_in before row) (filter-twice keep (other (key row)) xs)

  pub filter-without : (keep : A → Bool) (row : A) (xs : List A) → keep row ≡ false → filter keep (with_row order same key row xs) ≡ without_key same key (key row) (filter keep xs)
  filter-without keep row xs out =
      put_left_out keep row (without_key same key (key row) xs) out ∙ filter-twice keep (other (key row)) xs

  -- what a search says
  row_at : (P : K → Type 0) (xs : List A) (i : ℕ) (d : A) → i < length xs → AllByRecursion P (map key xs) → P (key (get_or xs i d))
  row_at P [] i d lt all = let no : ⊥ = omega arith in absurd no
  row_at P (x ∷ xs) zero d lt all = all.0
  row_at P (x ∷ xs) (suc i) d lt all = row_at P xs i d (omega arith) all.1

  rows_ascend : (xs : List A) (i j : ℕ) (d : A) → Ascend order key xs → i < j → j < length xs → order (key (get_or xs i d)) (key (get_or xs j d)) ≡ Less
  unfolding IsStrictlySortedBy
  rows_ascend [] i j d up a b = let no : ⊥ = omega arith in absurd no
  rows_ascend (x ∷ xs) i zero d up a b = let no : ⊥ = omega arith in absurd no
  rows_ascend (x ∷ xs) zero (suc j) d up a b = row_at (λ y. order (key x) y ≡ Less) xs j d (omega arith) up.0
  rows_ascend (x ∷ xs) (suc i) (suc j) d up a b = rows_ascend xs i j d up.1 (omega arith) (omega arith)

  rows_rise : (xs : List A) (k : K) → Ascend order key xs → IsNonDecreasingBy (λ row. ordering_index (order (key row) k)) xs
  rows_rise xs k up = searchable_from_sorted total key xs k (λ i d low high. ap is_lt (turned (key (get_or xs i d)) (key (get_or xs (i + 1) d)) Less (rows_ascend xs i (i + 1) d up (omega arith) high)))

  all_take : (P : A → Type 0) (xs : List A) (i : ℕ) → i ≤ length xs → AllWithin P xs 0 i → AllByRecursion P (take i xs)
  all_take P xs zero le all = tt
  all_take P [] (suc i) le all = let no : ⊥ = omega arith in absurd no
  all_take P (x ∷ xs) (suc i) le all = (all 0 x (omega arith) (omega arith), all_take P xs i (omega arith) (λ j d low high. all (suc j) d (omega arith) (omega arith)))

  all_drop : (P : A → Type 0) (xs : List A) (i : ℕ) → AllWithin P xs i (length xs) → AllByRecursion P (drop i xs)
  all_drop P [] zero all = tt
  all_drop P [] (suc i) all = tt
  all_drop P (x ∷ xs) zero all = (all 0 x (omega arith) (omega arith), all_drop P xs zero (λ j d low high. all (suc j) d (omega arith) (omega arith)))
  all_drop P (x ∷ xs) (suc i) all = all_drop P xs i (λ j d low high. all (suc j) d (omega arith) (omega arith))

  found_split : (k : K) (xs : List A) (i : ℕ) (d : A) → Ascend order key xs → i < length xs → order (key (get_or xs i d)) k ≡ Equal → IsSplit order key k xs (take i xs) (get_or xs i d ∷ []) (drop (suc i) xs)
  unfolding IsStrictlySortedBy
  found_split k [] i d up lt e = let no : ⊥ = omega arith in absurd no
  found_split k (x ∷ xs) zero d up lt e = record {
    is = refl;
    are_below = tt;
    are_at = (e, tt);
    are_above = all-weaker (λ z. order (key x) (key z) ≡ Less) (λ z. order (key z) k ≡ Greater) (λ z f. turned k (key z) Less (sym (total.congr (key x) k (key z) e) ∙ f)) xs (all-unmap (λ z. order (key x) z ≡ Less) key xs up.0);
  }
  found_split k (x ∷ xs) (suc i) d up lt e =
      let rest = found_split k xs i d up.1 (omega arith) e in
      let below : order (key x) k ≡ Less = sym (alike_right total (key (get_or xs i d)) k (key x) e) ∙ row_at (λ y. order (key x) y ≡ Less) xs i d (omega arith) up.0 in
      record { is = ap (λ more. x ∷ more) rest.is; are_below = (below, rest.are_below); are_at = rest.are_at; are_above = rest.are_above }

  -- a search that found the key, and one that found where it would stand
  pub found-split : (k : K) (xs : List A) (i : ℕ) (d : A) → Ascend order key xs → i < length xs → order (key (get_or xs i d)) k ≡ Equal → IsSplit order key k xs (take i xs) (get_or xs i d ∷ []) (drop (i + 1) xs)
  found-split k xs i d up lt e = rw add-one (found_split k xs i d up lt e)

  pub absent-split : (k : K) (xs : List A) (i : ℕ) → Ascend order key xs → i ≤ length xs
      → (IsNonDecreasingBy (λ row. ordering_index (order (key row) k)) xs → IsPartitionPoint (λ row. order (key row) k ≡ Less) (λ row. order (key row) k ≡ Greater) xs i)
      → IsSplit order key k xs (take i xs) [] (drop i xs)
  absent-split k xs i up le point =
      let parts = point (rows_rise xs k up) in
      record { is = sym (take-append-drop i xs); are_below = all_take (λ row. order (key row) k ≡ Less) xs i le parts.0; are_at = tt; are_above = all_drop (λ row. order (key row) k ≡ Greater) xs i parts.1 }

  pub searched-found : (k : K) (xs : List A) (r : Result ℕ ℕ) → Ascend order key xs → IsSearchInRange r (length xs) → IsBinarySearchResult (λ row. order (key row) k) xs r
      → IfOk r (λ i. (d : A) → IsSplit order key k xs (take i xs) (get_or xs i d ∷ []) (drop (i + 1) xs))
  searched-found k xs (Ok i) up within found = λ d. found-split k xs i d up within (found d)
  searched-found k xs (Err i) up within found = tt

  pub searched-absent : (k : K) (xs : List A) (r : Result ℕ ℕ) → Ascend order key xs → IsSearchInRange r (length xs) → IsBinarySearchResult (λ row. order (key row) k) xs r
      → IfErr r (λ i. IsSplit order key k xs (take i xs) [] (drop i xs))
  searched-absent k xs (Ok i) up within found = tt
  searched-absent k xs (Err i) up within found = absent-split k xs i up within found

  pub set-is : (row : A) (xs : List A) (i : ℕ) (d : A) → i < length xs → IsSplit order key (key row) xs (take i xs) (get_or xs i d ∷ []) (drop (i + 1) xs) → set xs i row ≡ with_row order same key row xs
  set-is row xs i d lt split = set_parts row xs i lt ∙ sym (with-split row xs (take i xs) (get_or xs i d ∷ []) (drop (i + 1) xs) split)

  pub insert-is : {E : Type 0} (row : A) (xs ys : List A) (i : ℕ) (r : Result (Unit {0}) E) → ys ≡ (if is_ok r then insert xs i row else xs) → IsOk r → IsSplit order key (key row) xs (take i xs) [] (drop i xs) → ys ≡ with_row order same key row xs
  insert-is row xs ys i (Ok u) is ok split = is ∙ sym (with-split row xs (take i xs) [] (drop i xs) split)
  insert-is row xs ys i (Err e) is ok split = absurd (false≢true ok)

  -- a row that is there is put in its own place
  pub put-again : (row : A) (xs : List A) → Ascend order key xs → IsIn row xs → with_row order same key row xs ≡ xs
  unfolding IsStrictlySortedBy
  put-again row [] up k = absurd k
  put-again row (x ∷ xs) up (inl e) =
      subst (λ z. with_row order same key z (x ∷ xs) ≡ x ∷ xs) e (with-split x (x ∷ xs) [] (x ∷ []) xs (found_split (key x) (x ∷ xs) zero x up (omega arith) (tied_itself total (key x))))
  put-again row (x ∷ xs) up (inr k) =
      let below : order (key x) (key row) ≡ Less = all_at (λ z. order (key x) (key z) ≡ Less) xs (all-unmap (λ z. order (key x) z ≡ Less) key xs up.0) row k in
      with-prefix row (x ∷ []) xs (below, tt) ∙ ap (λ rest. x ∷ rest) (put-again row xs up.1 k)

  -- what is found of a key: a row that has it, or none
  any_other : (q : A → Bool) (k : K) (xs : List A) → AllByRecursion (λ row. other k row ≡ true) xs → list_any (λ row. same (key row) k && q row) xs ≡ false
  any_other q k [] all = refl
  any_other q k (x ∷ xs) all = go (same (key x) k) all.0 (any_other q k xs all.1)
    where
      go : (b : Bool) → not b ≡ true → list_any (λ row. same (key row) k && q row) xs ≡ false → ((b && q x) || list_any (λ row. same (key row) k && q row) xs) ≡ false
      go true e rest = absurd (false≢true e)
      go false e rest = rest

  any_append : (p : A → Bool) (xs ys : List A) → list_any p (xs ++ ys) ≡ (list_any p xs || list_any p ys)
  any_append p [] ys = refl
  any_append p (x ∷ xs) ys = go (p x) (any_append p xs ys)
    where
      go : (b : Bool) → list_any p (xs ++ ys) ≡ (list_any p xs || list_any p ys) → (b || list_any p (xs ++ ys)) ≡ ((b || list_any p xs) || list_any p ys)
      go true rest = refl
      go false rest = rest

  or_false : (b : Bool) → (b || false) ≡ b
  or_false true = refl
  or_false false = refl

  any_split : (q : A → Bool) (k : K) (xs below at above : List A) → IsSplit order key k xs below at above → list_any (λ row. same (key row) k && q row) xs ≡ list_any (λ row. same (key row) k && q row) at
  any_split q k xs below at above split =
      let p = λ (row : A). same (key row) k && q row in
      let front : list_any p below ≡ false = any_other q k below (all-weaker (λ row. order (key row) k ≡ Less) (λ row. other k row ≡ true) (less_other k) below split.are_below) in
      let back : list_any p above ≡ false = any_other q k above (all-weaker (λ row. order (key row) k ≡ Greater) (λ row. other k row ≡ true) (greater_other k) above split.are_above) in
      ap (list_any p) split.is ∙ any_append p below (at ++ above) ∙ rw front (any_append p at above ∙ rw back (or_false (list_any p at)))

  pub any-found : (q : A → Bool) (k : K) (xs below above : List A) (row : A) → IsSplit order key k xs below (row ∷ []) above → list_any (λ r. same (key r) k && q r) xs ≡ q row
  any-found q k xs below above row split =
      any_split q k xs below (row ∷ []) above split ∙ go (same (key row) k) (equal_same k row split.are_at.0)
    where
      go : (b : Bool) → not b ≡ false → ((b && q row) || false) ≡ q row
      go true e = or_false (q row)
      go false e = absurd (false≢true (sym e))

  pub any-absent : (q : A → Bool) (k : K) (xs below above : List A) → IsSplit order key k xs below [] above → list_any (λ r. same (key r) k && q r) xs ≡ false
  any-absent q k xs below above split = any_split q k xs below [] above split

  and_true : (b : Bool) → (b && true) ≡ b
  and_true true = refl
  and_true false = refl

  pub has-found : (k : K) (xs below above : List A) (row : A) → IsSplit order key k xs below (row ∷ []) above → list_any (λ r. same (key r) k) xs ≡ true
  has-found k xs below above row split = any_agree (λ r. same (key r) k) (λ r. same (key r) k && true) (λ r. sym (and_true (same (key r) k))) xs ∙ any-found (λ r. true) k xs below above row split

  pub has-absent : (k : K) (xs below above : List A) → IsSplit order key k xs below [] above → list_any (λ r. same (key r) k) xs ≡ false
  has-absent k xs below above split = any_agree (λ r. same (key r) k) (λ r. same (key r) k && true) (λ r. sym (and_true (same (key r) k))) xs ∙ any-absent (λ r. true) k xs below above split

  pub has-answer : (k : K) (xs : List A) (r : Result ℕ ℕ) → IsSearchInRange r (length xs) → IfOk r (λ i. (d : A) → IsSplit order key k xs (take i xs) (get_or xs i d ∷ []) (drop (i + 1) xs)) → IfErr r (λ i. IsSplit order key k xs (take i xs) [] (drop i xs))
      → is_ok r ≡ list_any (λ row. same (key row) k) xs
  has-answer k [] (Ok i) within found absent = let no : ⊥ = omega arith in absurd no
  has-answer k (x ∷ xs) (Ok i) within found absent = sym (has-found k (x ∷ xs) (take i (x ∷ xs)) (drop (i + 1) (x ∷ xs)) (get_or (x ∷ xs) i x) (found x))
  has-answer k xs (Err i) within found absent = sym (has-absent k xs (take i xs) (drop i xs) absent)
