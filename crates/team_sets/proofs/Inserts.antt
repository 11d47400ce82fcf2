-- Where a link comes that no link has as a parent, the old order with the link put in is chosen in turn.
use Rattle.std.proofs.Common.{◌≡◌, Bool, true, false, not, ◌&&◌, ◌||◌, cond, List, [], ◌∷◌, ◌++◌, append_assoc, append-nil, filter, Some, refl, sym, ◌∙◌, ap, subst, inl, inr, ◌⊎◌}
use Rattle.std.specs.List.{list_all, list_any, AllByRecursion, IsDistinct}
use Rattle.std.specs.Cmp.Lexicographic.{bytes_decides}
use Rattle.std.proofs.lemmas.Bool.{false≢true, and_left, false_from_ne_true, not_from_true, or_from, or_left, or_right}
use Rattle.team_sets.specs.Names.{Name, same_name, name_lt, has_name}
use Rattle.team_sets.specs.Members.{IsIn}
use Rattle.team_sets.specs.Order.{least, is_next, order, names}
use Rattle.team_sets.specs.OrderLaws.{IsSet, IsArrangement, IsChosenInTurn, NamesDiffer, ParentsFirst}
use Rattle.team_sets.specs.Insertion.{is_parent_of, place_in}
use Rattle.team_sets.specs.InsertionLaws.{ComesConnected}
use Rattle.team_sets.proofs.OrderLeast.{in_filter, of_filter, least_none, least_below, is_chosen, has_name-placed, name_lt-asym, name_lt-irrefl, name_le-trans, order_laws}
use Rattle.team_sets.proofs.Lists.{filter_alike, filter_end, or_false}
use Rattle.team_sets.proofs.Pasts.{all_at, all_names, any_of, in_more, one_named}
use Rattle.team_sets.proofs.Agree.{any_in}
use Rattle.team_sets.proofs.Parts.{has_of_in, in_turn, in_turn-unique, list_all-alike, name_in}
use Rattle.team_sets.proofs.ConnectedLaw.{all_of_each}
use Rattle.team_sets.proofs.Distinct.{apart, distinct-differ}
use Rattle.team_sets.proofs.Connects.{least_is, next_from, next_parts}
use Rattle.team_sets.proofs.Arrivals.{arranged_in, first_append, first_set, in_append-left, later_new}

module _ {A : Type 0} where
  in_end : (xs : List A) (x : A) → IsIn x (xs ++ x ∷ [])
  in_end [] x = inl refl
  in_end (y ∷ ys) x = inr (in_end ys x)

  in_append : (xs ys : List A) (z : A) → IsIn z (xs ++ ys) → IsIn z xs ⊎ IsIn z ys
  in_append [] ys z k = inr k
  in_append (x ∷ xs) ys z (inl e) = inl (inl e)
  in_append (x ∷ xs) ys z (inr k) = go (in_append xs ys z k)
    where
      go : IsIn z xs ⊎ IsIn z ys → ((x ≡ z) ⊎ IsIn z xs) ⊎ IsIn z ys
      go (inl h) = inl (inr h)
      go (inr h) = inr h

  all_from : (P : A → Type 0) (xs : List A) → ((x : A) → IsIn x xs → P x) → AllByRecursion P xs
  all_from P [] h = tt
  all_from P (x ∷ xs) h = (h x (inl refl), all_from P xs (λ y k. h y (inr k)))

module _ {A : Type 0} (name : A → Name) (prev : A → List Name) where
  -- the last of a set has a name of its own
  set_end : (xs : List A) (x : A) → IsSet name (xs ++ x ∷ []) → has_name (names name xs) (name x) ≡ false
  unfolding IsDistinct
  set_end [] x d = refl
  set_end (y ∷ ys) x d = or_from (same_name (name y) (name x)) (has_name (names name ys) (name x)) (apart name (name y) x (ys ++ x ∷ []) d.0 (in_end ys x)) (set_end ys x d.1)

  turn_first : (links placed list : List A) → IsChosenInTurn name prev links placed list → ParentsFirst name prev placed list
  turn_first links placed [] h = tt
  turn_first links placed (x ∷ xs) h = ((is_chosen name prev links placed x h.0).is_next_one, turn_first links (placed ++ x ∷ []) xs h.1)

  -- the parents of each of a list stand there
  parents_stand : (placed list : List A) → ParentsFirst name prev placed list → (y : A) → IsIn y list → (q : Name) → has_name (prev y) q ≡ true → has_name (names name (placed ++ list)) q ≡ true
  parents_stand placed [] first y k q h = absurd k
  parents_stand placed (x ∷ xs) first y (inl e) q h =
      let p = one_named name placed q (all_names (has_name (names name placed)) (prev x) q (next_parts name prev placed x first.0).1 (subst (λ z. has_name (prev z) q ≡ true) (sym e) h)) in
      name_in name prev (placed ++ x ∷ xs) p.0 (in_append-left placed (x ∷ xs) p.0 p.1) q p.2
  parents_stand placed (x ∷ xs) first y (inr k) q h =
      subst (λ l. has_name (names name l) q ≡ true) (append_assoc placed (x ∷ []) xs) (parents_stand (placed ++ x ∷ []) xs first.1 y k q h)

  module _ (links : List A) (x : A) (differ : NamesDiffer name (links ++ x ∷ [])) (fresh : has_name (names name links) (name x) ≡ false)
      (childless : (y : A) → IsIn y links → has_name (prev y) (name x) ≡ false) (parents : list_all (has_name (names name links)) (prev x) ≡ true) where
    -- the same names stand in both, but for that of x, which stands in the second
    record IsWith (placed others : List A) : Type 0 where
      here : has_name (names name others) (name x) ≡ true
      same : (m : Name) → same_name (name x) m ≡ false → has_name (names name others) m ≡ has_name (names name placed) m

    with_one : (placed : List A) → IsWith placed (placed ++ x ∷ [])
    with_one placed = record {
      here = has_name-placed name prev placed placed x (name x) ∙ or_right (has_name (names name placed) (name x)) (same_name (name x) (name x)) ((bytes_decides (name x) (name x)).1 refl);
      same = λ m h. has_name-placed name prev placed placed x m ∙ rw h (or_false (has_name (names name placed) m));
    }

    with_more : (placed others : List A) (y : A) → IsWith placed others → IsWith (placed ++ y ∷ []) (others ++ y ∷ [])
    with_more placed others y w = record {
      here = has_name-placed name prev others others y (name x) ∙ or_left (has_name (names name others) (name x)) (same_name (name y) (name x)) w.here;
      same = λ m h. has_name-placed name prev others others y m ∙ ap (λ b. b || same_name (name y) m) (w.same m h) ∙ sym (has_name-placed name prev placed placed y m);
    }

    apart_x : (y : A) → IsIn y links → same_name (name x) (name y) ≡ false
    apart_x y k = false_from_ne_true (same_name (name x) (name y)) (λ h. false≢true (sym fresh ∙ name_in name prev links y k (name x) (sym ((bytes_decides (name x) (name y)).0 h))))

    next_same : (placed others : List A) → IsWith placed others → (y : A) → IsIn y links → is_next name prev others y ≡ is_next name prev placed y
    next_same placed others w y k =
        ap (λ b. not b && list_all (has_name (names name others)) (prev y)) (w.same (name y) (apart_x y k))
        ∙ ap (λ b. not (has_name (names name placed) (name y)) && b) (list_all-alike name prev (has_name (names name others)) (has_name (names name placed)) (prev y)
        (λ q j. w.same q (false_from_ne_true (same_name (name x) q)
        (λ h. false≢true (sym (childless y k) ∙ subst (λ n. has_name (prev y) n ≡ true) (sym ((bytes_decides (name x) q).0 h)) (has_of_in name prev (prev y) q j))))))

    -- once x stands, the others follow as they did without it
    candidates_same : (placed others : List A) → IsWith placed others → filter (is_next name prev others) (links ++ x ∷ []) ≡ filter (is_next name prev placed) links
    candidates_same placed others w =
        filter_end (is_next name prev others) links x false
        (and_left (not (has_name (names name others) (name x))) (list_all (has_name (names name others)) (prev x)) (not_from_true (has_name (names name others) (name x)) w.here))
        ∙ append-nil (filter (is_next name prev others) links)
        ∙ filter_alike (is_next name prev others) (is_next name prev placed) links (next_same placed others w)

    turn_with : (placed others list : List A) → IsWith placed others → IsChosenInTurn name prev links placed list → IsChosenInTurn name prev (links ++ x ∷ []) others list
    turn_with placed others [] w h = ap (λ l. least name l) (candidates_same placed others w) ∙ h
    turn_with placed others (y ∷ ys) w h = (ap (λ l. least name l) (candidates_same placed others w) ∙ h.0, turn_with (placed ++ y ∷ []) (others ++ y ∷ []) ys (with_more placed others y w) h.1)

    differ_next : (placed : List A) → NamesDiffer name (filter (is_next name prev placed) (links ++ x ∷ []))
    differ_next placed y z k j = differ y z (of_filter (is_next name prev placed) y (links ++ x ∷ []) k).0 (of_filter (is_next name prev placed) z (links ++ x ∷ []) j).0

    -- y is the least with x too, where x may not stand next or isn't before it
    keeps : (placed : List A) (y : A) → least name (filter (is_next name prev placed) links) ≡ Some y → (is_next name prev placed x ≡ true → name_lt (name x) (name y) ≡ false)
        → least name (filter (is_next name prev placed) (links ++ x ∷ [])) ≡ Some y
    keeps placed y e behind =
        let all = links ++ x ∷ [] in
        let c = is_chosen name prev links placed y e in
        least_is name (filter (is_next name prev placed) all) (differ_next placed) y
        (in_filter (is_next name prev placed) y all (in_append-left links (x ∷ []) y c.of_links) c.is_next_one)
        (λ z k. let here = of_filter (is_next name prev placed) z all k in below z (in_more links x z here.0) here.1)
      where
        below : (z : A) → IsIn z links ⊎ (x ≡ z) → is_next name prev placed z ≡ true → name_lt (name z) (name y) ≡ false
        below z (inl k) next = least_below name (filter (is_next name prev placed) links) y z e (in_filter (is_next name prev placed) z links k next)
        below z (inr same) next = subst (λ w. name_lt (name w) (name y) ≡ false) same (behind (subst (λ w. is_next name prev placed w ≡ true) (sym same) next))

    -- x is the least where it may stand next and the least without it isn't before it
    takes : (placed : List A) (y : A) → least name (filter (is_next name prev placed) links) ≡ Some y → is_next name prev placed x ≡ true → name_lt (name y) (name x) ≡ false
        → least name (filter (is_next name prev placed) (links ++ x ∷ [])) ≡ Some x
    takes placed y e ready after =
        let all = links ++ x ∷ [] in
        least_is name (filter (is_next name prev placed) all) (differ_next placed) x (in_filter (is_next name prev placed) x all (in_end links x) ready)
        (λ z k. let here = of_filter (is_next name prev placed) z all k in below z (in_more links x z here.0) here.1)
      where
        below : (z : A) → IsIn z links ⊎ (x ≡ z) → is_next name prev placed z ≡ true → name_lt (name z) (name x) ≡ false
        below z (inl k) next = name_le-trans (name x) (name y) (name z) after (least_below name (filter (is_next name prev placed) links) y z e (in_filter (is_next name prev placed) z links k next))
        below z (inr same) next = subst (λ w. name_lt (name w) (name x) ≡ false) same (name_lt-irrefl (name x))

    -- each parent of x stands among those placed, where none is among the rest
    ready_x : (placed rest : List A) → has_name (names name placed) (name x) ≡ false → ((q : Name) → has_name (names name links) q ≡ true → has_name (names name (placed ++ rest)) q ≡ true)
        → list_any (is_parent_of name prev x) rest ≡ false → is_next name prev placed x ≡ true
    ready_x placed rest new full none = next_from name prev placed x new (all_of_each (has_name (names name placed)) (prev x) each)
      where
        each : (q : Name) → IsIn q (prev x) → has_name (names name placed) q ≡ true
        each q j = go (in_append placed rest p.0 p.1)
          where
            p : (z : A) × IsIn z (placed ++ rest) × (name z ≡ q)
            p = one_named name (placed ++ rest) q (full q (all_names (has_name (names name links)) (prev x) q parents (has_of_in name prev (prev x) q j)))

            go : IsIn p.0 placed ⊎ IsIn p.0 rest → has_name (names name placed) q ≡ true
            go (inl k) = name_in name prev placed p.0 k q p.2
            go (inr k) =
                absurd (false≢true (sym none ∙ any_in (is_parent_of name prev x) rest p.0 k (subst (λ n. has_name (prev x) n ≡ true) (sym p.2) (has_of_in name prev (prev x) q j))))

    put_turn : (placed rest : List A) → IsChosenInTurn name prev links placed rest → has_name (names name placed) (name x) ≡ false
        → ((q : Name) → has_name (names name links) q ≡ true → has_name (names name (placed ++ rest)) q ≡ true)
        → IsChosenInTurn name prev (links ++ x ∷ []) placed (place_in name prev x rest)
    put_turn placed [] h new full =
        let ready = ready_x placed [] new full refl in (
          ap (λ l. least name l) (filter_end (is_next name prev placed) links x true ready ∙ ap (λ l. l ++ x ∷ []) (least_none name (filter (is_next name prev placed) links) h)),
          ap (λ l. least name l) (candidates_same placed (placed ++ x ∷ []) (with_one placed)) ∙ h,
        )
    put_turn placed (y ∷ ys) h new full =
        go (list_any (is_parent_of name prev x) (y ∷ ys)) refl (name_lt (name y) (name x)) refl
        (put_turn (placed ++ y ∷ []) ys h.1 more_new (λ q k. subst (λ l. has_name (names name l) q ≡ true) (sym (append_assoc placed (y ∷ []) ys)) (full q k)))
      where
        of_links : IsIn y links
        of_links = (is_chosen name prev links placed y h.0).of_links

        more_new : has_name (names name (placed ++ y ∷ [])) (name x) ≡ false
        more_new =
            has_name-placed name prev placed placed y (name x)
            ∙ or_from (has_name (names name placed) (name x)) (same_name (name y) (name x)) new
            (false_from_ne_true (same_name (name y) (name x)) (λ k. false≢true (sym fresh ∙ name_in name prev links y of_links (name x) ((bytes_decides (name y) (name x)).0 k))))

        -- a parent of x is among the rest: x can't stand next
        waits : list_any (is_parent_of name prev x) (y ∷ ys) ≡ true → is_next name prev placed x ≡ true → ⊥
        waits any next =
            let p = any_of (is_parent_of name prev x) (y ∷ ys) any in
            false≢true (sym (later_new name prev placed (y ∷ ys) (turn_first links placed (y ∷ ys) h) p.0 p.1)
            ∙ all_names (has_name (names name placed)) (prev x) (name p.0) (next_parts name prev placed x next).1 p.2)

        go : (a : Bool) → list_any (is_parent_of name prev x) (y ∷ ys) ≡ a → (b : Bool) → name_lt (name y) (name x) ≡ b
            → IsChosenInTurn name prev (links ++ x ∷ []) (placed ++ y ∷ []) (place_in name prev x ys)
            → IsChosenInTurn name prev (links ++ x ∷ []) placed (cond (a || b) (y ∷ place_in name prev x ys) (x ∷ y ∷ ys))
        go true any b lt more = (keeps placed y h.0 (λ next. absurd (waits any next)), more)
        go false any true lt more = (keeps placed y h.0 (λ next. name_lt-asym (name y) (name x) lt), more)
        go false any false lt more =
            (takes placed y h.0 (ready_x placed (y ∷ ys) new full any) lt, turn_with placed (placed ++ x ∷ []) (y ∷ ys) (with_one placed) h)

  pub insertion_order : (links : List A) (x : A) → ComesConnected name prev links x → order name prev (links ++ x ∷ []) ≡ place_in name prev x (order name prev links)
  insertion_order links x c =
      in_turn-unique name prev (links ++ x ∷ []) [] (order name prev (links ++ x ∷ [])) (place_in name prev x (order name prev links)) (in_turn name prev (links ++ x ∷ []))
      (put_turn links x differ fresh childless c.parents [] (order name prev links) (in_turn name prev links) refl full)
    where
      differ : NamesDiffer name (links ++ x ∷ [])
      differ = distinct-differ name (links ++ x ∷ []) c.set

      fresh : has_name (names name links) (name x) ≡ false
      fresh = set_end links x c.set

      arranged : IsArrangement name prev links [] (order name prev links)
      arranged = (order_laws name prev links (λ y z k j. differ y z (in_append-left links (x ∷ []) y k) (in_append-left links (x ∷ []) z j))).0

      full : (q : Name) → has_name (names name links) q ≡ true → has_name (names name (order name prev links)) q ≡ true
      full q h = let y = one_named name links q h in name_in name prev (order name prev links) y.0 (c.connected y.0 y.1) q y.2

      childless : (y : A) → IsIn y links → has_name (prev y) (name x) ≡ false
      childless y k = false_from_ne_true (has_name (prev y) (name x)) (λ h.
          let p = one_named name (order name prev links) (name x) (parents_stand [] (order name prev links) arranged.parents_first y (c.connected y k) (name x) h) in
          false≢true (sym fresh ∙ name_in name prev links p.0 (all_at (λ z. IsIn z links) (order name prev links) arranged.of_links p.0 p.1) (name x) p.2))

  -- links that connect one by one are all connected
  pub self_arranged : (placed : List A) → ParentsFirst name prev [] placed → IsArrangement name prev placed [] placed
  self_arranged placed first = record {
    of_links = all_from (λ x. IsIn x placed) placed (λ x k. k);
    parents_first = first;
    complete = λ x k. and_left (not (has_name (names name placed) (name x))) (list_all (has_name (names name placed)) (prev x))
        (not_from_true (has_name (names name placed) (name x)) (name_in name prev placed x k (name x) refl));
  }

  pub insertion_turn : (placed : List A) (x : A) → ParentsFirst name prev [] placed → is_next name prev placed x ≡ true
      → order name prev (placed ++ x ∷ []) ≡ place_in name prev x (order name prev placed)
  insertion_turn placed x first next =
      let differ = distinct-differ name placed (first_set name prev [] placed first) in
      insertion_order placed x (record {
        set = first_set name prev [] (placed ++ x ∷ []) (first_append name prev [] placed (x ∷ []) first (next, tt));
        connected = arranged_in name prev placed placed (order name prev placed) differ (self_arranged placed first) (order_laws name prev placed differ).0;
        parents = (next_parts name prev placed x next).1;
      })
