-- Links with their pasts: closed under parents, and all given before the links that come after the ones named.
use Rattle.std.proofs.Common.{◌≡◌, ◌⊎◌, ℕ, ◌<◌, ◌≤◌, Bool, true, false, ◌||◌, List, [], ◌∷◌, map, Some, refl, sym, ◌∙◌, ap, subst, inl, inr, length, take, drop, slice_get, arith}
use Rattle.std.specs.List.{list_any}
use Rattle.std.proofs.lemmas.Bool.{false≢true, or_cases, or_left, or_right}
use Rattle.team_sets.specs.Names.{Name, has_name}
use Rattle.team_sets.specs.Members.{IsIn}
use Rattle.team_sets.specs.Order.{names}
use Rattle.team_sets.specs.Ancestry.{is_before, named}
use Rattle.team_sets.specs.OrderLaws.{IsSet}
use Rattle.team_sets.specs.PartLaws.{HasParents}
use Rattle.team_sets.proofs.Agree.{any_in, same_answer}
use Rattle.team_sets.proofs.Ancestors.{in_at, in_links, in_take, transitive, unrolled}
use Rattle.team_sets.proofs.Lists.{filter_alike}
use Rattle.team_sets.proofs.OrderLeast.{in_filter, of_filter}
use Rattle.team_sets.proofs.Pasts.{all_names, any_of, one_named, reached_connected}
use Rattle.team_model.specs.Judging.{name_of, prev_of, order_of, past_of}
use Rattle.team_model.specs.declared.terms.Link.{Link}
use Rattle.link_graph.specs.Held.{arrived_of}
use Rattle.link_graph.specs.Below.{is_within}
use Rattle.replica.specs.Below.{is_below, with_pasts}
use Rattle.replica.specs.Judged.{AreGiven}
use Rattle.link_graph.proofs.Arrived.{ancestor_at, at_order, differ, of_back, of_front, one_place, ordered, to_links}

module _ (links : List Link) (set : IsSet name_of links) where
  -- the parents of a connected link, with their pasts, are its past
  pub past_below : (x : Link) → IsIn x (order_of links) → with_pasts links x.prev ≡ past_of links x
  past_below x k =
      filter_alike (λ y. is_below links x.prev y.name) (λ y. is_before name_of prev_of links y.name x) links
      (λ y j. sym (unrolled name_of prev_of links (differ links set) x k y.name))

  -- a link with the name of a connected one is connected
  connected_named : (y : Link) → IsIn y links → has_name (names name_of (order_of links)) y.name ≡ true → IsIn y (order_of links)
  connected_named y k h =
      let z = one_named name_of (order_of links) y.name h in
      subst (λ w. IsIn w (order_of links)) (differ links set z.0 y (in_links name_of prev_of links (differ links set) z.0 z.1) k z.2) z.1

  module _ (n : ℕ) (heads : List Name) (given : AreGiven links n heads) where
    -- a link with one of the names is given
    pub head_given : (h : Link) → IsIn h links → has_name heads h.name ≡ true → (i : ℕ) × (i < n) × (slice_get (arrived_of links) i ≡ Some h)
    head_given h k e =
        let z = one_named name_of (take n (arrived_of links)) h.name (all_names (has_name (names name_of (take n (arrived_of links)))) heads h.name given e) in
        let i = of_front (arrived_of links) n z.0 z.1 in
        (i.0, i.1, i.2 ∙ ap (λ w. Some w) (differ links set z.0 h (to_links links set z.0 (in_take n (arrived_of links) z.0 z.1)) k z.2))

    head_connected : (h : Link) → IsIn h (named name_of prev_of links heads) → IsIn h (order_of links)
    head_connected h k =
        let here = of_filter (λ x. has_name heads x.name) h links k in
        let i = head_given h here.0 here.1 in
        at_order links set i.0 h i.2

    -- these are the links that a graph marks for the names
    pub within_below : (x : Link) → is_within links heads x ≡ is_below links heads x.name
    within_below x = ap (λ b. has_name heads x.name || b) (same_answer (list_any (is_before name_of prev_of links x.name) (named name_of prev_of (order_of links) heads))
        (list_any (is_before name_of prev_of links x.name) (named name_of prev_of links heads)) forth back)
      where
        forth : list_any (is_before name_of prev_of links x.name) (named name_of prev_of (order_of links) heads) ≡ true → list_any (is_before name_of prev_of links x.name) (named name_of prev_of links heads) ≡ true
        forth e =
            let h = any_of (is_before name_of prev_of links x.name) (named name_of prev_of (order_of links) heads) e in
            let of = of_filter (λ y. has_name heads y.name) h.0 (order_of links) h.1 in
            any_in (is_before name_of prev_of links x.name) (named name_of prev_of links heads) h.0
            (in_filter (λ y. has_name heads y.name) h.0 links (in_links name_of prev_of links (differ links set) h.0 of.0) of.1) h.2

        back : list_any (is_before name_of prev_of links x.name) (named name_of prev_of links heads) ≡ true → list_any (is_before name_of prev_of links x.name) (named name_of prev_of (order_of links) heads) ≡ true
        back e =
            let h = any_of (is_before name_of prev_of links x.name) (named name_of prev_of links heads) e in
            let of = of_filter (λ y. has_name heads y.name) h.0 links h.1 in
            any_in (is_before name_of prev_of links x.name) (named name_of prev_of (order_of links) heads) h.0 (in_filter (λ y. has_name heads y.name) h.0 (order_of links) (head_connected h.0 h.1) of.1) h.2

    pub marks_below : map (is_within links heads) (arrived_of links) ≡ map (λ x. is_below links heads x.name) (arrived_of links)
    marks_below = alike (arrived_of links)
      where
        alike : (xs : List Link) → map (is_within links heads) xs ≡ map (λ x. is_below links heads x.name) xs
        alike [] = refl
        alike (y ∷ ys) = rw (within_below y, alike ys) refl

    below_cases : (a : Name) → is_below links heads a ≡ true → (has_name heads a ≡ true) ⊎ ((h : Link) × IsIn h (named name_of prev_of links heads) × (is_before name_of prev_of links a h ≡ true))
    below_cases a e = go (or_cases (has_name heads a) (list_any (is_before name_of prev_of links a) (named name_of prev_of links heads)) e)
      where
        go : (has_name heads a ≡ true) ⊎ (list_any (is_before name_of prev_of links a) (named name_of prev_of links heads) ≡ true)
            → (has_name heads a ≡ true) ⊎ ((h : Link) × IsIn h (named name_of prev_of links heads) × (is_before name_of prev_of links a h ≡ true))
        go (inl d) = inl d
        go (inr d) = inr (any_of (is_before name_of prev_of links a) (named name_of prev_of links heads) d)

    before_head : (a : Name) (h : Link) → IsIn h (named name_of prev_of links heads) → is_before name_of prev_of links a h ≡ true → is_below links heads a ≡ true
    before_head a h k e =
        or_right (has_name heads a) (list_any (is_before name_of prev_of links a) (named name_of prev_of links heads))
        (any_in (is_before name_of prev_of links a) (named name_of prev_of links heads) h k e)

    pub below_connected : (y : Link) → IsIn y links → is_below links heads y.name ≡ true → IsIn y (order_of links)
    below_connected y k e = go (below_cases y.name e)
      where
        go : (has_name heads y.name ≡ true) ⊎ ((h : Link) × IsIn h (named name_of prev_of links heads) × (is_before name_of prev_of links y.name h ≡ true)) → IsIn y (order_of links)
        go (inl d) = head_connected y (in_filter (λ x. has_name heads x.name) y links k d)
        go (inr d) = connected_named y k (reached_connected name_of prev_of links (differ links set) d.0 (head_connected d.0 d.1) (length links) y.name d.2)

    -- a parent of one of these is one
    pub below_parent : (y : Link) → IsIn y links → is_below links heads y.name ≡ true → (a : Name) → has_name y.prev a ≡ true → is_below links heads a ≡ true
    below_parent y k e a p = go (below_cases y.name e)
      where
        direct : is_before name_of prev_of links a y ≡ true
        direct =
            unrolled name_of prev_of links (differ links set) y (below_connected y k e) a
            ∙ or_left (has_name y.prev a) (list_any (is_before name_of prev_of links a) (named name_of prev_of links y.prev)) p

        go : (has_name heads y.name ≡ true) ⊎ ((h : Link) × IsIn h (named name_of prev_of links heads) × (is_before name_of prev_of links y.name h ≡ true)) → is_below links heads a ≡ true
        go (inl d) = before_head a y (in_filter (λ x. has_name heads x.name) y links k d) direct
        go (inr d) = before_head a d.0 d.1 (transitive name_of prev_of links (differ links set) d.0 y (head_connected d.0 d.1) k a d.2 direct)

    pub below_closed : HasParents name_of prev_of links (λ y. is_below links heads y.name)
    below_closed x y k e j p = below_parent x k e y.name p

    -- none of these stands after the first n
    pub below_early : (y : Link) → IsIn y (drop n (arrived_of links)) → is_below links heads y.name ≡ false
    below_early y k = go (is_below links heads y.name) refl
      where
        late : (i : ℕ) × (n ≤ i) × (slice_get (arrived_of links) i ≡ Some y)
        late = of_back (arrived_of links) n y k

        in_set : IsIn y links
        in_set = to_links links set y (in_at (arrived_of links) late.0 y late.2)

        clash : (j : ℕ) → j < n → slice_get (arrived_of links) j ≡ Some y → false ≡ true
        clash j h there =
            let same : j ≡ late.0 = one_place (arrived_of links) (ordered links set).set j late.0 y y there late.2 refl in
            let after : n ≤ late.0 = late.1 in
            absurd (omega arith)

        found : (has_name heads y.name ≡ true) ⊎ ((h : Link) × IsIn h (named name_of prev_of links heads) × (is_before name_of prev_of links y.name h ≡ true)) → false ≡ true
        found (inl d) = let i = head_given y in_set d in clash i.0 i.1 i.2
        found (inr d) =
            let here = of_filter (λ x. has_name heads x.name) d.0 links d.1 in
            let i = head_given d.0 here.0 here.1 in
            let j = ancestor_at links set i.0 d.0 i.2 y in_set d.2 in
            let less : j.0 < i.0 = j.1 in
            let few : i.0 < n = i.1 in
            clash j.0 (omega arith) j.2

        go : (b : Bool) → is_below links heads y.name ≡ b → b ≡ false
        go false e = refl
        go true e = absurd (false≢true (found (below_cases y.name e)))
