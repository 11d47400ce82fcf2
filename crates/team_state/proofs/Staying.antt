-- What stays in a table that ascends when a row is put or dropped.
use Rattle.std.proofs.Common.{◌≡◌, ◌≤◌, Bool, true, false, not, cond, List, [], ◌∷◌, filter, find, length, suc, Option, Some, None, refl, sym, ◌∙◌, ap, subst, inl, inr, arith}
use Rattle.std.specs.List.{list_any}
use Rattle.std.specs.List.Sorted.{IsStrictlySortedBy}
use Rattle.std.specs.Cmp.Lexicographic.{nat_list_eq_equiv}
use Rattle.std.specs.Ordering.{is_lt}
use Rattle.std.specs.declared.cmp.Ordering.TheVariants.{Less}
use Rattle.std.proofs.lemmas.Bool.{false≢true}
use Rattle.team_sets.specs.Members.{IsIn}
use Rattle.team_sets.specs.Names.{Name, has_name, name_lt, put_in, same_name}
use Rattle.team_sets.proofs.Agree.{any_in}
use Rattle.team_sets.proofs.Decisions.{find_none, find_of}
use Rattle.team_sets.proofs.OrderLeast.{in_filter, name_lt-irrefl}
use Rattle.team_sets.proofs.Pasts.{all_at, any_of, same_name-is}
use Rattle.team_model.specs.State.{drop_row, put_name, put_row}
use Rattle.team_state.specs.Kept.{name_cmp}
use Rattle.team_state.specs.Rows.{Ascend}
use Rattle.team_state.proofs.Found.{any_names}
use Rattle.team_state.proofs.Placed.{all-unmap}

-- whether a boolean holds, with the reason
pub by_cases : {R : Type 0} (b : Bool) → (b ≡ true → R) → (b ≡ false → R) → R
by_cases true yes_ no_ = yes_ refl
by_cases false yes_ no_ = no_ refl

pub put_back : {A : Type 0} (before : A → A → Bool) (x z : A) (ys : List A) → IsIn z (x ∷ ys) → IsIn z (put_in before x ys)
put_back before x z [] k = k
put_back {A} before x z (y ∷ ys) k = go (before x y) k (put_back before x z ys)
  where
    go : (b : Bool) → IsIn z (x ∷ y ∷ ys) → (IsIn z (x ∷ ys) → IsIn z (put_in before x ys)) → IsIn z (cond b (x ∷ y ∷ ys) (y ∷ put_in before x ys))
    go true j more = j
    go false (inl e) more = inr (more (inl e))
    go false (inr (inl e)) more = inl e
    go false (inr (inr j)) more = inr (more (inr j))

pub length-put : {A : Type 0} (before : A → A → Bool) (x : A) (ys : List A) → length (put_in before x ys) ≡ suc (length ys)
length-put before x [] = refl
length-put {A} before x (y ∷ ys) = go (before x y) (length-put before x ys)
  where
    go : (b : Bool) → length (put_in before x ys) ≡ suc (length ys) → length (cond b (x ∷ y ∷ ys) (y ∷ put_in before x ys)) ≡ suc (suc (length ys))
    go true more = refl
    go false more = ap suc more

pub length-fewer : {A : Type 0} (keep : A → Bool) (xs : List A) → length (filter keep xs) ≤ length xs
length-fewer keep [] = omega arith
length-fewer {A} keep (x ∷ xs) = go (keep x) (length-fewer keep xs)
  where
    go : (b : Bool) → length (filter keep xs) ≤ length xs → length (cond b (x ∷ filter keep xs) (filter keep xs)) ≤ suc (length xs)
    go true more = omega (arith, more)
    go false more = omega (arith, more)

not_self : (n : Name) → name_cmp n n ≡ Less → ⊥
not_self n e = false≢true (sym (name_lt-irrefl n) ∙ ap is_lt e)

module _ {A : Type 0} (key : A → Name) where
  -- two rows with one key are one row
  pub one_row : (rows : List A) → Ascend name_cmp key rows → (x y : A) → IsIn x rows → IsIn y rows → key x ≡ key y → x ≡ y
  unfolding IsStrictlySortedBy
  one_row [] up x y k j same = absurd k
  one_row (r ∷ rows) up x y (inl e) (inl f) same = sym e ∙ f
  one_row (r ∷ rows) up x y (inl e) (inr j) same =
      absurd (not_self (key r) (subst (λ n. name_cmp (key r) n ≡ Less) (sym same ∙ ap key (sym e)) (all_at (λ z. name_cmp (key r) (key z) ≡ Less) rows (all-unmap (λ n. name_cmp (key r) n ≡ Less) key rows up.0) y j)))
  one_row (r ∷ rows) up x y (inr k) (inl f) same =
      absurd (not_self (key r) (subst (λ n. name_cmp (key r) n ≡ Less) (same ∙ ap key (sym f)) (all_at (λ z. name_cmp (key r) (key z) ≡ Less) rows (all-unmap (λ n. name_cmp (key r) n ≡ Less) key rows up.0) x k)))
  one_row (r ∷ rows) up x y (inr k) (inr j) same = one_row rows up.1 x y k j same

  -- the first row with a key is the one that has it
  pub first_is : (rows : List A) → Ascend name_cmp key rows → (x : A) → IsIn x rows → find (λ r. same_name (key r) (key x)) rows ≡ Some x
  first_is rows up x k = go (find (λ r. same_name (key r) (key x)) rows) refl
    where
      go : (o : Option A) → find (λ r. same_name (key r) (key x)) rows ≡ o → o ≡ Some x
      go None e = absurd (false≢true (sym (none_so rows x e k) ∙ nat_list_eq_equiv.refl (key x)))
        where
          none_so : (ys : List A) (z : A) → find (λ r. same_name (key r) (key x)) ys ≡ None → IsIn z ys → same_name (key z) (key x) ≡ false
          none_so ys z e j = find_none (λ r. same_name (key r) (key x)) ys e z j
      go (Some y) e =
          let is = find_of (λ r. same_name (key r) (key x)) rows y e in
          ap Some (one_row rows up y x is.0 k (same_name-is (key y) (key x) is.1))

  -- a row stays when a row with another key is put, or goes
  pub put_keeps : (row : A) (rows : List A) (x : A) → IsIn x rows → same_name (key x) (key row) ≡ false → IsIn x (put_row key row rows)
  put_keeps row rows x k other =
      put_back (λ a b. name_lt (key a) (key b)) row x (filter (λ r. not (same_name (key r) (key row))) rows)
      (inr (in_filter (λ r. not (same_name (key r) (key row))) x rows k (rw other refl)))

  pub put_has : (row : A) (rows : List A) → IsIn row (put_row key row rows)
  put_has row rows = put_back (λ a b. name_lt (key a) (key b)) row row (filter (λ r. not (same_name (key r) (key row))) rows) (inl refl)

  pub drop_keeps : (n : Name) (rows : List A) (x : A) → IsIn x rows → same_name (key x) n ≡ false → IsIn x (drop_row key n rows)
  drop_keeps n rows x k other = in_filter (λ r. not (same_name (key r) n)) x rows k (rw other refl)

-- no row with a key passes where none was met
pub none_met : {A : Type 0} (p : A → Bool) (xs : List A) (x : A) → list_any p xs ≡ false → IsIn x xs → p x ≡ false
none_met p xs x none k = by_cases (p x) (λ met. absurd (false≢true (sym none ∙ any_in p xs x k met))) (λ e. e)

-- names stay when another is put, or goes
has_in : (ns : List Name) (n : Name) → has_name ns n ≡ true → IsIn n ns
has_in ns n h = let m = any_of (λ m. same_name m n) ns (any_names ns n ∙ h) in subst (λ k. IsIn k ns) (same_name-is m.0 n m.2) m.1

in_has : (ns : List Name) (n : Name) → IsIn n ns → has_name ns n ≡ true
in_has ns n k = sym (any_names ns n) ∙ any_in (λ m. same_name m n) ns n k (nat_list_eq_equiv.refl n)

pub with_name-keeps : (r : Name) (ns : List Name) (n : Name) → has_name ns n ≡ true → has_name (put_name r ns) n ≡ true
with_name-keeps r ns n h =
    by_cases (same_name n r) (λ e. in_has (put_name r ns) n (subst (λ m. IsIn m (put_name r ns)) (sym (same_name-is n r e)) (put_has (λ m. m) r ns)))
    (λ other. in_has (put_name r ns) n (put_keeps (λ m. m) r ns n (has_in ns n h) other))

pub without_name-keeps : (r : Name) (ns : List Name) (n : Name) → same_name n r ≡ false → has_name ns n ≡ true → has_name (drop_row (λ m. m) r ns) n ≡ true
without_name-keeps r ns n other h = in_has (drop_row (λ m. m) r ns) n (drop_keeps (λ m. m) r ns n (has_in ns n h) other)
