-- The order as a list of choices, and the order of a part.
use Rattle.std.proofs.Common.{◌≡◌, ℕ, zero, suc, Bool, true, false, not, ◌&&◌, cond, List, [], ◌∷◌, ◌++◌, filter, Option, Some, None, append-nil, refl, sym, ◌∙◌, ap, subst, inl, inr, length, ◌≤◌, ◌<◌, arith}
use Rattle.std.specs.List.{list_all, AllByRecursion}
use Rattle.std.specs.Option.{option_map_or}
use Rattle.std.specs.Cmp.Lexicographic.{bytes_decides, slice_cmp, nat_list_cmp_total}
use Rattle.std.specs.Ordering.{is_lt, nat_cmp, ordering_reverse}
use Rattle.std.specs.declared.cmp.Ordering.{Ordering}
use Rattle.std.specs.declared.cmp.Ordering.TheVariants.{Less, Equal, Greater}
use Rattle.std.specs.FinMap.{slice_cmp-IsAntisymmetric, nat_cmp-IsAntisymmetric}
use Rattle.std.proofs.lemmas.Bool.{false≢true, and_parts, or_left, or_right}
use Rattle.team_sets.specs.Names.{Name, same_name, name_lt, has_name}
use Rattle.team_sets.specs.Members.{IsIn}
use Rattle.team_sets.specs.Order.{least, is_next, order_after, order, names}
use Rattle.team_sets.specs.OrderLaws.{IsChosenInTurn, NamesDiffer}
use Rattle.team_sets.specs.PartLaws.{HasParents}
use Rattle.team_sets.proofs.OrderLeast.{in_filter, of_filter, least_in, least_none, least_below, is_left, is_chosen, left-fewer, length-filter-le, false_where_none}
use Rattle.team_sets.proofs.Lists.{filter_end}
use Rattle.team_sets.proofs.Pasts.{all_at, all_more, one_named}

-- two tests that imply each other give the same answer
alike : (s t : Bool) → (s ≡ true → t ≡ true) → (t ≡ true → s ≡ true) → s ≡ t
alike true t f g = sym (f refl)
alike false true f g = g refl
alike false false f g = refl

-- neither name is before the other: they are one
pub name_lt-both : (a b : Name) → name_lt a b ≡ false → name_lt b a ≡ false → a ≡ b
name_lt-both a b h k = go (slice_cmp nat_cmp a b) refl
  where
    go : (r : Ordering) → slice_cmp nat_cmp a b ≡ r → a ≡ b
    go Less e = absurd (false≢true (sym h ∙ ap is_lt e))
    go Equal e = slice_cmp-IsAntisymmetric nat_cmp-IsAntisymmetric a b e
    go Greater e = absurd (false≢true (sym k ∙ (ap is_lt (nat_list_cmp_total.antisymm b a) ∙ ap (λ r. is_lt (ordering_reverse r)) e)))

module _ {A : Type 0} (name : A → Name) (prev : A → List Name) where
  pub in_turn-unique : (links placed xs ys : List A) → IsChosenInTurn name prev links placed xs → IsChosenInTurn name prev links placed ys → xs ≡ ys
  in_turn-unique links placed [] [] h k = refl
  in_turn-unique links placed [] (y ∷ ys) h k = absurd (let e : ◌≡◌ {A = Option A} None (Some y) = sym h ∙ k.0 in cc)
  in_turn-unique links placed (x ∷ xs) [] h k = absurd (let e : ◌≡◌ {A = Option A} None (Some x) = sym k ∙ h.0 in cc)
  in_turn-unique links placed (x ∷ xs) (y ∷ ys) h k =
      let e : ◌≡◌ {A = Option A} (Some x) (Some y) = sym h.0 ∙ k.0 in
      let same : x ≡ y = cc in
      let rest : xs ≡ ys = in_turn-unique links (placed ++ x ∷ []) xs ys h.1 (subst (λ z. IsChosenInTurn name prev links (placed ++ z ∷ []) ys) (sym same) k.1) in
      cc

  pub filter_none : (p : A → Bool) (xs : List A) → ((x : A) → IsIn x xs → p x ≡ false) → filter p xs ≡ []
  filter_none p [] h = refl
  filter_none p (x ∷ xs) h = rw (h x (inl refl)) (filter_none p xs (λ y k. h y (inr k)))

  pub in_turn-order : (links : List A) (n : ℕ) (placed : List A) → length (filter (is_left name prev links placed) links) ≤ n → IsChosenInTurn name prev links placed (order_after name prev n placed links)
  unfolding is_left
  in_turn-order links zero placed few =
      rw (filter_none (is_next name prev placed) links (λ x k. go x k (is_next name prev placed x) refl)) refl
    where
      go : (x : A) → IsIn x links → (b : Bool) → is_next name prev placed x ≡ b → b ≡ false
      go x k false e = refl
      go x k true e = absurd (false≢true (sym (false_where_none (filter (is_left name prev links placed) links) x (is_left name prev links placed x) few (in_filter (is_left name prev links placed) x links k))
          ∙ (and_parts (not (has_name (names name placed) (name x))) (list_all (has_name (names name placed)) (prev x)) e).0))
  in_turn-order links (suc n) placed few = go (least name (filter (is_next name prev placed) links)) refl (in_turn-order links n)
    where
      go : (o : Option A) → least name (filter (is_next name prev placed) links) ≡ o
          → ((placed : List A) → length (filter (is_left name prev links placed) links) ≤ n → IsChosenInTurn name prev links placed (order_after name prev n placed links))
          → IsChosenInTurn name prev links placed (option_map_or (λ x. x ∷ order_after name prev n (placed ++ x ∷ []) links) o [])
      go None e more = e
      go (Some x) e more =
          let fewer : length (filter (is_left name prev links (placed ++ x ∷ [])) links) < length (filter (is_left name prev links placed) links) = left-fewer name prev links placed x (is_chosen name prev links placed x e) in
          (e, more (placed ++ x ∷ []) (omega arith))

  pub in_turn : (links : List A) → IsChosenInTurn name prev links [] (order name prev links)
  in_turn links = in_turn-order links (length links) [] (length-filter-le name prev links (is_left name prev links []) links)

  pub name_in : (xs : List A) (y : A) → IsIn y xs → (m : Name) → name y ≡ m → has_name (names name xs) m ≡ true
  name_in [] y k m e = absurd k
  name_in (x ∷ xs) y (inl same) m e = or_left (same_name (name x) m) (has_name (names name xs) m) ((bytes_decides (name x) m).1 (ap name same ∙ e))
  name_in (x ∷ xs) y (inr k) m e = or_right (same_name (name x) m) (has_name (names name xs) m) (name_in xs y k m e)

  pub has_of_in : (ms : List Name) (n : Name) → IsIn n ms → has_name ms n ≡ true
  has_of_in [] n k = absurd k
  has_of_in (m ∷ ms) n (inl e) = or_left (same_name m n) (has_name ms n) ((bytes_decides m n).1 e)
  has_of_in (m ∷ ms) n (inr k) = or_right (same_name m n) (has_name ms n) (has_of_in ms n k)

  pub list_all-alike : (p q : Name → Bool) (ms : List Name) → ((m : Name) → IsIn m ms → p m ≡ q m) → list_all p ms ≡ list_all q ms
  list_all-alike p q [] h = refl
  list_all-alike p q (m ∷ ms) h = rw (h m (inl refl)) (ap (λ b. q m && b) (list_all-alike p q ms (λ n k. h n (inr k))))

  filter_swap : (p q r : A → Bool) (xs : List A) → ((x : A) → IsIn x xs → p x ≡ true → q x ≡ r x) → filter q (filter p xs) ≡ filter p (filter r xs)
  filter_swap p q r [] h = refl
  filter_swap p q r (x ∷ xs) h = go (p x) refl (r x) (filter_swap p q r xs (λ y k. h y (inr k))) (h x (inl refl))
    where
      go : (b : Bool) → p x ≡ b → (c : Bool) → filter q (filter p xs) ≡ filter p (filter r xs) → (p x ≡ true → q x ≡ c)
          → filter q (cond b (x ∷ filter p xs) (filter p xs)) ≡ filter p (cond c (x ∷ filter r xs) (filter r xs))
      go true is true e f = rw (f is, is) (ap (λ l. x ∷ l) e)
      go true is false e f = rw (f is) e
      go false is true e f = rw is e
      go false is false e f = e

  module _ (links : List A) (part : A → Bool) (differ : NamesDiffer name links) (closed : HasParents name prev links part) where
    -- a name of a link of the part stands in a list exactly where it stands in its part
    kept_name : (placed : List A) → AllByRecursion (λ x. IsIn x links) placed → (m : Name) → ((y : A) → IsIn y links → name y ≡ m → part y ≡ true)
        → has_name (names name (filter part placed)) m ≡ has_name (names name placed) m
    kept_name placed of m keeps =
        alike (has_name (names name (filter part placed)) m) (has_name (names name placed) m)
        (λ h. let y = one_named name (filter part placed) m h in name_in placed y.0 (of_filter part y.0 placed y.1).0 m y.2)
        (λ h. let y = one_named name placed m h in
        name_in (filter part placed) y.0 (in_filter part y.0 placed y.1 (keeps y.0 (all_at (λ x. IsIn x links) placed of y.0 y.1) y.2)) m y.2)

    same_next : (placed : List A) → AllByRecursion (λ x. IsIn x links) placed → (x : A) → IsIn x links → part x ≡ true
        → is_next name prev (filter part placed) x ≡ is_next name prev placed x
    same_next placed of x k p =
        let own : has_name (names name (filter part placed)) (name x) ≡ has_name (names name placed) (name x) =
        kept_name placed of (name x) (λ y m e. subst (λ z. part z ≡ true) (differ x y k m (sym e)) p) in
        let parents : list_all (has_name (names name (filter part placed))) (prev x) ≡ list_all (has_name (names name placed)) (prev x) =
        list_all-alike (has_name (names name (filter part placed))) (has_name (names name placed)) (prev x)
        (λ q h. kept_name placed of q (λ y m e. closed x y k p m (subst (λ z. has_name (prev x) z ≡ true) (sym e) (has_of_in (prev x) q h)))) in
        ap (λ b. not b && list_all (has_name (names name (filter part placed))) (prev x)) own ∙ ap (λ b. not (has_name (names name placed) (name x)) && b) parents

    same_candidates : (placed : List A) → AllByRecursion (λ x. IsIn x links) placed
        → filter (is_next name prev (filter part placed)) (filter part links) ≡ filter part (filter (is_next name prev placed) links)
    same_candidates placed of = filter_swap part (is_next name prev (filter part placed)) (is_next name prev placed) links (λ x k p. same_next placed of x k p)

    least_part : (cs : List A) → ((x : A) → IsIn x cs → IsIn x links) → (x : A) → least name cs ≡ Some x → part x ≡ true → least name (filter part cs) ≡ Some x
    least_part cs of x e p = go (least name (filter part cs)) refl
      where
        here : IsIn x (filter part cs)
        here = in_filter part x cs (least_in name cs x e) p

        go : (o : Option A) → least name (filter part cs) ≡ o → o ≡ Some x
        go None f = absurd (subst (λ l. IsIn x l) (least_none name (filter part cs) f) here)
        go (Some z) f =
            let in_cs : IsIn z cs = (of_filter part z cs (least_in name (filter part cs) z f)).0 in
            ap (λ y. Some y) (differ z x (of z in_cs) (of x (least_in name cs x e))
            (name_lt-both (name z) (name x) (least_below name cs x z e in_cs) (least_below name (filter part cs) z x f here)))

    cut_in_turn : (list placed : List A) → AllByRecursion (λ x. IsIn x links) placed → IsChosenInTurn name prev links placed list
        → IsChosenInTurn name prev (filter part links) (filter part placed) (filter part list)
    cut_in_turn [] placed of h = rw (same_candidates placed of, least_none name (filter (is_next name prev placed) links) h) refl
    cut_in_turn (x ∷ xs) placed of h = go (part x) refl (cut_in_turn xs (placed ++ x ∷ []) (all_more (λ z. IsIn z links) placed x of in_links) h.1)
      where
        in_links : IsIn x links
        in_links = (of_filter (is_next name prev placed) x links (least_in name (filter (is_next name prev placed) links) x h.0)).0

        go : (b : Bool) → part x ≡ b → IsChosenInTurn name prev (filter part links) (filter part (placed ++ x ∷ [])) (filter part xs)
            → IsChosenInTurn name prev (filter part links) (filter part placed) (cond b (x ∷ filter part xs) (filter part xs))
        go true p more = (
          ap (λ l. least name l) (same_candidates placed of)
              ∙ least_part (filter (is_next name prev placed) links) (λ y k. (of_filter (is_next name prev placed) y links k).0) x h.0 p,
          subst (λ l. IsChosenInTurn name prev (filter part links) l (filter part xs)) (filter_end part placed x true p) more,
        )
        go false p more = subst (λ l. IsChosenInTurn name prev (filter part links) l (filter part xs)) (filter_end part placed x false p ∙ append-nil (filter part placed)) more

    pub order-part : order name prev (filter part links) ≡ filter part (order name prev links)
    order-part =
        in_turn-unique (filter part links) [] (order name prev (filter part links)) (filter part (order name prev links))
        (in_turn (filter part links)) (cut_in_turn (order name prev links) [] tt (in_turn links))
