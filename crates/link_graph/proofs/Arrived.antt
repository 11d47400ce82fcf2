-- The links of the positions: parents first, each name once.
use Rattle.std.proofs.Common.{◌≡◌, ℕ, zero, suc, ◌<◌, ◌≤◌, Bool, true, false, not, List, [], ◌∷◌, Option, Some, None, refl, sym, ◌∙◌, ap, inl, inr, length, take, drop, slice_get, arith}
use Rattle.std.specs.List.{list_all, IsDistinct}
use Rattle.std.specs.Cmp.Lexicographic.{bytes_decides}
use Rattle.std.proofs.lemmas.Bool.{false≢true, and_parts}
use Rattle.team_sets.specs.Names.{has_name}
use Rattle.team_sets.specs.Members.{IsIn}
use Rattle.team_sets.specs.Order.{names}
use Rattle.team_sets.specs.OrderLaws.{IsSet, NamesDiffer, ParentsFirst}
use Rattle.team_sets.specs.Ancestry.{is_before}
use Rattle.team_sets.specs.ArrivalLaws.{ArrivedIsOrdered}
use Rattle.team_sets.proofs.Ancestors.{all_of, first_take, in_at, in_links, in_take, next_at}
use Rattle.team_sets.proofs.Arrivals.{arrived_ordered}
use Rattle.team_sets.proofs.Distinct.{apart, distinct-differ}
use Rattle.team_sets.proofs.Pasts.{all_names, one_named, reached_placed}
use Rattle.team_model.specs.Judging.{name_of, prev_of, order_of}
use Rattle.team_model.specs.declared.terms.Link.{Link}
use Rattle.link_graph.specs.Held.{arrived_of}

module _ {A : Type 0} where
  pub index_in : (xs : List A) (x : A) → IsIn x xs → (i : ℕ) × (slice_get xs i ≡ Some x)
  index_in [] x k = absurd k
  index_in (y ∷ ys) x (inl e) = (0, ap (λ z. Some z) e)
  index_in (y ∷ ys) x (inr k) = let r = index_in ys x k in (suc r.0, r.1)

  pub in_back : (xs : List A) (n i : ℕ) (x : A) → slice_get xs i ≡ Some x → n ≤ i → IsIn x (drop n xs)
  in_back xs zero i x e h = in_at xs i x e
  in_back [] (suc n) i x e h = absurd (let bad : ◌≡◌ {A = Option A} None (Some x) = e in cc)
  in_back (y ∷ ys) (suc n) zero x e h = absurd (omega arith)
  in_back (y ∷ ys) (suc n) (suc i) x e h = in_back ys n i x e (omega arith)

  pub of_back : (xs : List A) (n : ℕ) (x : A) → IsIn x (drop n xs) → (i : ℕ) × (n ≤ i) × (slice_get xs i ≡ Some x)
  of_back xs zero x k = let r = index_in xs x k in (r.0, omega arith, r.1)
  of_back [] (suc n) x k = absurd k
  of_back (y ∷ ys) (suc n) x k = let r = of_back ys n x k in let h : n ≤ r.0 = r.1 in (suc r.0, omega arith, r.2)

  pub of_front : (xs : List A) (n : ℕ) (x : A) → IsIn x (take n xs) → (i : ℕ) × (i < n) × (slice_get xs i ≡ Some x)
  of_front xs zero x k = absurd k
  of_front [] (suc n) x k = absurd k
  of_front (y ∷ ys) (suc n) x (inl e) = (0, omega arith, ap (λ z. Some z) e)
  of_front (y ∷ ys) (suc n) x (inr k) = let r = of_front ys n x k in let h : r.0 < n = r.1 in (suc r.0, omega arith, r.2)

-- one name stands at one place
pub one_place : (xs : List Link) → IsSet name_of xs → (i j : ℕ) (x y : Link) → slice_get xs i ≡ Some x → slice_get xs j ≡ Some y → x.name ≡ y.name → i ≡ j
unfolding IsDistinct
one_place [] set i j x y e f n = absurd (let bad : ◌≡◌ {A = Option Link} None (Some x) = e in cc)
one_place (z ∷ zs) set zero zero x y e f n = refl
one_place (z ∷ zs) set zero (suc j) x y e f n =
    let same : z ≡ x = cc in
    absurd (false≢true (sym (apart name_of z.name y zs set.0 (in_at zs j y f)) ∙ (bytes_decides z.name y.name).1 (ap name_of same ∙ n)))
one_place (z ∷ zs) set (suc i) zero x y e f n =
    let same : z ≡ y = cc in
    absurd (false≢true (sym (apart name_of z.name x zs set.0 (in_at zs i x e)) ∙ (bytes_decides z.name x.name).1 (ap name_of same ∙ sym n)))
one_place (z ∷ zs) set (suc i) (suc j) x y e f n = ap suc (one_place zs set.1 i j x y e f n)

module _ (links : List Link) (set : IsSet name_of links) where
  pub ordered : ArrivedIsOrdered name_of prev_of links
  ordered = arrived_ordered name_of prev_of links set

  pub differ : NamesDiffer name_of links
  differ = distinct-differ name_of links set

  pub first : ParentsFirst name_of prev_of [] (arrived_of links)
  first = ordered.arranged.parents_first

  pub to_order : (x : Link) → IsIn x (arrived_of links) → IsIn x (order_of links)
  to_order x k = ordered.members.forth x k

  pub to_links : (x : Link) → IsIn x (arrived_of links) → IsIn x links
  to_links x k = in_links name_of prev_of links differ x (to_order x k)

  pub place_of_order : (x : Link) → IsIn x (order_of links) → (i : ℕ) × (slice_get (arrived_of links) i ≡ Some x)
  place_of_order x k = index_in (arrived_of links) x (ordered.members.back x k)

  -- the link of a position, with the links before it
  module _ (i : ℕ) (x : Link) (at : slice_get (arrived_of links) i ≡ Some x) where
    pub at_order : IsIn x (order_of links)
    at_order = to_order x (in_at (arrived_of links) i x at)

    pub at_links : IsIn x links
    at_links = to_links x (in_at (arrived_of links) i x at)

    -- the names of its parents are of links before it
    pub parents_given : list_all (has_name (names name_of (take i (arrived_of links)))) x.prev ≡ true
    parents_given =
        (and_parts (not (has_name (names name_of (take i (arrived_of links))) x.name)) (list_all (has_name (names name_of (take i (arrived_of links)))) x.prev)
        (next_at name_of prev_of i [] (arrived_of links) x first at)).1

    -- a link with one of the names of links before it is one of these
    of_earlier : (y : Link) → IsIn y links → has_name (names name_of (take i (arrived_of links))) y.name ≡ true → (j : ℕ) × (j < i) × (slice_get (arrived_of links) j ≡ Some y)
    of_earlier y k h =
        let z = one_named name_of (take i (arrived_of links)) y.name h in
        let j = of_front (arrived_of links) i z.0 z.1 in
        let same : z.0 ≡ y = differ z.0 y (to_links z.0 (in_take i (arrived_of links) z.0 z.1)) k z.2 in
        (j.0, j.1, j.2 ∙ ap (λ w. Some w) same)

    pub parent_at : (y : Link) → IsIn y links → has_name x.prev y.name ≡ true → (j : ℕ) × (j < i) × (slice_get (arrived_of links) j ≡ Some y)
    parent_at y k h = of_earlier y k (all_names (has_name (names name_of (take i (arrived_of links)))) x.prev y.name parents_given h)

    pub not_parent : (j : ℕ) (y : Link) → slice_get (arrived_of links) j ≡ Some y → i ≤ j → has_name x.prev y.name ≡ false
    not_parent j y there h = go (has_name x.prev y.name) refl
      where
        go : (b : Bool) → has_name x.prev y.name ≡ b → b ≡ false
        go false e = refl
        go true e =
            let p = parent_at y (to_links y (in_at (arrived_of links) j y there)) e in
            let same : p.0 ≡ j = one_place (arrived_of links) ordered.set p.0 j y y p.2 there refl in
            let less : p.0 < i = p.1 in
            absurd (omega arith)

    earlier_in : (z : Link) → IsIn z (take i (arrived_of links)) → IsIn z links
    earlier_in z k = to_links z (in_take i (arrived_of links) z k)

    -- an ancestor stands before it
    pub ancestor_at : (y : Link) → IsIn y links → is_before name_of prev_of links y.name x ≡ true → (j : ℕ) × (j < i) × (slice_get (arrived_of links) j ≡ Some y)
    ancestor_at y k h =
        of_earlier y k
        (reached_placed name_of prev_of links differ (take i (arrived_of links)) (all_of (λ z. IsIn z links) (take i (arrived_of links)) earlier_in)
        (first_take name_of prev_of i [] (arrived_of links) first) x (next_at name_of prev_of i [] (arrived_of links) x first at) (length links) y.name h)
