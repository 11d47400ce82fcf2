-- Lists that ascend are one where they have the same members, and sorted insertion gives such a list.
use Rattle.std.proofs.Common.{◌≡◌, Bool, true, false, cond, List, [], ◌∷◌, fold, refl, sym, ◌∙◌, ap, subst, inl, inr, ◌⊎◌}
use Rattle.std.specs.List.{AllByRecursion, IsDistinct}
use Rattle.std.specs.Ordering.{is_lt, nat_cmp}
use Rattle.std.specs.Cmp.Lexicographic.{slice_cmp, nat_list_cmp_total, nat_list_eq_equiv}
use Rattle.std.specs.FinMap.{slice_cmp-IsAntisymmetric, nat_cmp-IsAntisymmetric}
use Rattle.std.specs.declared.cmp.Ordering.{Ordering}
use Rattle.std.specs.declared.cmp.Ordering.TheVariants.{Less, Equal, Greater}
use Rattle.std.proofs.lemmas.Bool.{false≢true}
use Rattle.team_sets.specs.Names.{Name, name_lt, same_name, put_in, ascending}
use Rattle.team_sets.specs.Members.{IsIn, HaveSameMembers}
use Rattle.team_sets.specs.Order.{names}
use Rattle.team_sets.specs.OrderLaws.{IsSet}
use Rattle.team_sets.specs.SortedLaws.{IsStrict, IsAscending, AreApart, by_names}
use Rattle.team_sets.proofs.OrderLeast.{name_lt-asym, name_lt-irrefl, lt_irrefl_le}
use Rattle.team_sets.proofs.Pasts.{all_at, same_name-is}

module _ {A : Type 0} where
  pub all_of : (P : A → Type 0) (xs : List A) → ((x : A) → IsIn x xs → P x) → AllByRecursion P xs
  all_of P [] h = tt
  all_of P (x ∷ xs) h = (h x (inl refl), all_of P xs (λ y k. h y (inr k)))

module _ {A : Type 0} (before : A → A → Bool) where
  pub put_to : (x z : A) (ys : List A) → IsIn z (put_in before x ys) → IsIn z (x ∷ ys)
  put_to x z [] k = k
  put_to x z (y ∷ ys) k = go (before x y) k (put_to x z ys)
    where
      go : (b : Bool) → IsIn z (cond b (x ∷ y ∷ ys) (y ∷ put_in before x ys)) → (IsIn z (put_in before x ys) → IsIn z (x ∷ ys)) → IsIn z (x ∷ y ∷ ys)
      go true j more = j
      go false (inl e) more = inr (inl e)
      go false (inr j) more = over (more j)
        where
          over : IsIn z (x ∷ ys) → IsIn z (x ∷ y ∷ ys)
          over (inl e) = inl e
          over (inr m) = inr (inr m)

  put_back : (x z : A) (ys : List A) → IsIn z (x ∷ ys) → IsIn z (put_in before x ys)
  put_back x z [] k = k
  put_back x z (y ∷ ys) k = go (before x y) k (put_back x z ys)
    where
      go : (b : Bool) → IsIn z (x ∷ y ∷ ys) → (IsIn z (x ∷ ys) → IsIn z (put_in before x ys)) → IsIn z (cond b (x ∷ y ∷ ys) (y ∷ put_in before x ys))
      go true j more = j
      go false (inl e) more = inr (more (inl e))
      go false (inr (inl e)) more = inl e
      go false (inr (inr j)) more = inr (more (inr j))

  fold_to : (xs kept : List A) (z : A) → IsIn z (fold (λ sorted x. put_in before x sorted) kept xs) → IsIn z kept ⊎ IsIn z xs
  fold_to [] kept z k = inl k
  fold_to (x ∷ xs) kept z k = go (fold_to xs (put_in before x kept) z k)
    where
      first : IsIn z (x ∷ kept) → IsIn z kept ⊎ IsIn z (x ∷ xs)
      first (inl e) = inr (inl e)
      first (inr j) = inl j

      go : IsIn z (put_in before x kept) ⊎ IsIn z xs → IsIn z kept ⊎ IsIn z (x ∷ xs)
      go (inl j) = first (put_to x z kept j)
      go (inr j) = inr (inr j)

  fold_back : (xs kept : List A) (z : A) → IsIn z kept ⊎ IsIn z xs → IsIn z (fold (λ sorted x. put_in before x sorted) kept xs)
  fold_back [] kept z (inl k) = k
  fold_back [] kept z (inr k) = absurd k
  fold_back (x ∷ xs) kept z k = fold_back xs (put_in before x kept) z (go k)
    where
      go : IsIn z kept ⊎ IsIn z (x ∷ xs) → IsIn z (put_in before x kept) ⊎ IsIn z xs
      go (inl j) = inl (put_back x z kept (inr j))
      go (inr (inl e)) = inl (put_back x z kept (inl e))
      go (inr (inr j)) = inr j

  pub ascending-members : (xs : List A) → HaveSameMembers (ascending before xs) xs
  ascending-members xs = record {
    forth = λ z k. go z (fold_to xs [] z k);
    back = λ z k. fold_back xs [] z (inr k);
  }
    where
      go : (z : A) → IsIn z [] ⊎ IsIn z xs → IsIn z xs
      go z (inl k) = absurd k
      go z (inr k) = k

  all_put : (P : A → Type 0) (x : A) (ys : List A) → P x → AllByRecursion P ys → AllByRecursion P (put_in before x ys)
  all_put P x [] p all = (p, tt)
  all_put P x (y ∷ ys) p all = go (before x y) (all_put P x ys p all.1)
    where
      go : (b : Bool) → AllByRecursion P (put_in before x ys) → AllByRecursion P (cond b (x ∷ y ∷ ys) (y ∷ put_in before x ys))
      go true more = (p, all)
      go false more = (all.0, more)

  module _ (strict : IsStrict before) where
    put_ascends : (x : A) (ys : List A) → IsAscending before ys → ((y : A) → IsIn y ys → (before x y ≡ true) ⊎ (before y x ≡ true)) → IsAscending before (put_in before x ys)
    put_ascends x [] up apart = (tt, tt)
    put_ascends x (y ∷ ys) up apart = go (before x y) refl (apart y (inl refl)) (put_ascends x ys up.1 (λ z k. apart z (inr k)))
      where
        go : (b : Bool) → before x y ≡ b → (before x y ≡ true) ⊎ (before y x ≡ true) → IsAscending before (put_in before x ys)
            → IsAscending before (cond b (x ∷ y ∷ ys) (y ∷ put_in before x ys))
        go true e one more = ((e, all_of (λ z. before x z ≡ true) ys (λ z k. strict.transitive x y z e (all_at (λ w. before y w ≡ true) ys up.0 z k))), up)
        go false e (inl h) more = absurd (false≢true (sym e ∙ h))
        go false e (inr h) more = (all_put (λ z. before y z ≡ true) x ys h up.0, more)

    fold_ascends : (xs kept : List A) → IsAscending before kept → AreApart before xs
        → ((x y : A) → IsIn x xs → IsIn y kept → (before x y ≡ true) ⊎ (before y x ≡ true)) → IsAscending before (fold (λ sorted x. put_in before x sorted) kept xs)
    fold_ascends [] kept up apart cross = up
    fold_ascends (x ∷ xs) kept up apart cross =
        fold_ascends xs (put_in before x kept) (put_ascends x kept up (λ y k. cross x y (inl refl) k)) apart.1 (λ z y k j. go z y k (put_to x y kept j))
      where
        go : (z y : A) → IsIn z xs → IsIn y (x ∷ kept) → (before z y ≡ true) ⊎ (before y z ≡ true)
        go z y k (inl e) = turn (subst (λ w. (before w z ≡ true) ⊎ (before z w ≡ true)) e (all_at (λ w. (before x w ≡ true) ⊎ (before w x ≡ true)) xs apart.0 z k))
          where
            turn : (before y z ≡ true) ⊎ (before z y ≡ true) → (before z y ≡ true) ⊎ (before y z ≡ true)
            turn (inl h) = inr h
            turn (inr h) = inl h
        go z y k (inr j) = cross z y (inr k) j

    pub ascending-ascends : (xs : List A) → AreApart before xs → IsAscending before (ascending before xs)
    ascending-ascends xs apart = fold_ascends xs [] tt apart (λ x y k j. absurd j)

    irreflexive : (x y : A) → x ≡ y → before x y ≡ true → ⊥
    irreflexive x y e h = let own : before y x ≡ true = subst (λ z. before z x ≡ true) e (subst (λ z. before x z ≡ true) (sym e) h) in false≢true (sym (strict.asymmetric x y h) ∙ own)

    heads_are_one : (x y : A) (xs ys : List A) → IsAscending before (x ∷ xs) → IsAscending before (y ∷ ys) → IsIn x (y ∷ ys) → IsIn y (x ∷ xs) → x ≡ y
    heads_are_one x y xs ys up over (inl e) k = sym e
    heads_are_one x y xs ys up over (inr j) (inl e) = e
    heads_are_one x y xs ys up over (inr j) (inr k) =
        absurd (false≢true (sym (strict.asymmetric x y (all_at (λ w. before x w ≡ true) xs up.0 y k)) ∙ all_at (λ w. before y w ≡ true) ys over.0 x j))

    rest_to : (x y z : A) (xs ys : List A) → IsAscending before (x ∷ xs) → x ≡ y → IsIn z xs → IsIn z (y ∷ ys) → IsIn z ys
    rest_to x y z xs ys up e k (inl same) = absurd (irreflexive x z (e ∙ same) (all_at (λ w. before x w ≡ true) xs up.0 z k))
    rest_to x y z xs ys up e k (inr j) = j

    pub ascending-one : (xs ys : List A) → IsAscending before xs → IsAscending before ys → ((z : A) → IsIn z xs → IsIn z ys) → ((z : A) → IsIn z ys → IsIn z xs) → xs ≡ ys
    ascending-one [] [] up over to back = refl
    ascending-one [] (y ∷ ys) up over to back = absurd (back y (inl refl))
    ascending-one (x ∷ xs) [] up over to back = absurd (to x (inl refl))
    ascending-one (x ∷ xs) (y ∷ ys) up over to back =
        let head : x ≡ y = heads_are_one x y xs ys up over (to x (inl refl)) (back y (inl refl)) in
        let rest : xs ≡ ys = ascending-one xs ys up.1 over.1 (λ z k. rest_to x y z xs ys up head k (to z (inr k))) (λ z k. rest_to y x z ys xs over (sym head) k (back z (inr k))) in
        cc

    pub ascending-of_set : (xs ys : List A) → AreApart before xs → AreApart before ys → HaveSameMembers xs ys → ascending before xs ≡ ascending before ys
    ascending-of_set xs ys apart other same =
        let mine = ascending-members xs in
        let theirs = ascending-members ys in
        ascending-one (ascending before xs) (ascending before ys) (ascending-ascends xs apart) (ascending-ascends ys other)
        (λ z k. theirs.back z (same.forth z (mine.forth z k))) (λ z k. mine.back z (same.back z (theirs.forth z k)))

    pub apart-ascending : (xs : List A) → IsAscending before xs → AreApart before xs
    apart-ascending [] up = tt
    apart-ascending (x ∷ xs) up = (all_of (λ y. (before x y ≡ true) ⊎ (before y x ≡ true)) xs (λ y k. inl (all_at (λ w. before x w ≡ true) xs up.0 y k)), apart-ascending xs up.1)

    -- a list that ascends is sorted already
    pub ascending-stays : (xs : List A) → IsAscending before xs → ascending before xs ≡ xs
    ascending-stays xs up =
        let mine = ascending-members xs in
        ascending-one (ascending before xs) xs (ascending-ascends xs (apart-ascending xs up)) up mine.forth mine.back

name_lt-trans : (a b c : Name) → name_lt a b ≡ true → name_lt b c ≡ true → name_lt a c ≡ true
name_lt-trans a b c h k = go (slice_cmp nat_cmp a b) refl (slice_cmp nat_cmp b c) refl h k
  where
    go : (r : Ordering) → slice_cmp nat_cmp a b ≡ r → (t : Ordering) → slice_cmp nat_cmp b c ≡ t → is_lt r ≡ true → is_lt t ≡ true → name_lt a c ≡ true
    go Less e Less f l m = ap is_lt (nat_list_cmp_total.trans a b c e f)
    go Less e Equal f l m = absurd (false≢true m)
    go Less e Greater f l m = absurd (false≢true m)
    go Equal e t f l m = absurd (false≢true l)
    go Greater e t f l m = absurd (false≢true l)

-- of two different names one is before the other
pub name_lt-apart : (a b : Name) → same_name a b ≡ false → (name_lt a b ≡ true) ⊎ (name_lt b a ≡ true)
name_lt-apart a b other = go (slice_cmp nat_cmp a b) refl
  where
    go : (r : Ordering) → slice_cmp nat_cmp a b ≡ r → (name_lt a b ≡ true) ⊎ (name_lt b a ≡ true)
    go Less e = inl (ap is_lt e)
    go Equal e = absurd (false≢true (sym other ∙ ap (same_name a) (sym (slice_cmp-IsAntisymmetric nat_cmp-IsAntisymmetric a b e)) ∙ nat_list_eq_equiv.refl a))
    go Greater e = inr (lt_irrefl_le a b e)

-- a name that is before another isn't it
name_lt-differs : (a b : Name) → name_lt a b ≡ true → same_name a b ≡ false
name_lt-differs a b h = go (same_name a b) refl
  where
    go : (c : Bool) → same_name a b ≡ c → c ≡ false
    go false e = refl
    go true e = absurd (false≢true (sym (name_lt-irrefl b) ∙ subst (λ n. name_lt n b ≡ true) (same_name-is a b e) h))

module _ {A : Type 0} (name : A → Name) where
  pub names-strict : IsStrict (by_names name)
  names-strict = record {
    asymmetric = λ x y h. name_lt-asym (name x) (name y) h;
    transitive = λ x y z h k. name_lt-trans (name x) (name y) (name z) h k;
  }

  one_apart : (x : A) (xs : List A) → AllByRecursion (λ m. same_name (name x) m ≡ false) (names name xs) → AllByRecursion (λ y. (by_names name x y ≡ true) ⊎ (by_names name y x ≡ true)) xs
  one_apart x [] d = tt
  one_apart x (y ∷ ys) d = (name_lt-apart (name x) (name y) d.0, one_apart x ys d.1)

  pub set-apart : (links : List A) → IsSet name links → AreApart (by_names name) links
  unfolding IsDistinct
  set-apart [] d = tt
  set-apart (x ∷ xs) d = (one_apart x xs d.0, set-apart xs d.1)

  one_differs : (x : A) (xs : List A) → AllByRecursion (λ y. by_names name x y ≡ true) xs → AllByRecursion (λ m. same_name (name x) m ≡ false) (names name xs)
  one_differs x [] up = tt
  one_differs x (y ∷ ys) up = (name_lt-differs (name x) (name y) up.0, one_differs x ys up.1)

  pub set-ascending : (links : List A) → IsAscending (by_names name) links → IsSet name links
  unfolding IsDistinct
  set-ascending [] up = tt
  set-ascending (x ∷ xs) up = (one_differs x xs up.0, set-ascending xs up.1)
