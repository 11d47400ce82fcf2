-- Each connected link is a head or an ancestor of one.
use Rattle.std.proofs.Common.{◌≡◌, ◌⊎◌, Bool, true, false, not, ◌||◌, List, [], ◌∷◌, ◌++◌, filter, refl, sym, ◌∙◌, ap, subst, inl, inr, append_assoc, append-nil}
use Rattle.std.specs.List.{IsDistinct, list_any}
use Rattle.std.proofs.lemmas.Bool.{false≢true, not_from_false, or_left}
use Rattle.std.proofs.lemmas.List.{map-id}
use Rattle.team_sets.specs.Names.{Name, has_name, name_lt, same_name}
use Rattle.team_sets.specs.Members.{IsIn}
use Rattle.team_sets.specs.Ancestry.{is_before, named}
use Rattle.team_sets.specs.Order.{is_next, names}
use Rattle.team_sets.specs.OrderLaws.{IsSet, NamesDiffer, ParentsFirst}
use Rattle.team_sets.specs.SortedLaws.{IsAscending}
use Rattle.team_sets.proofs.Ancestors.{in_links, order_first, transitive, unrolled}
use Rattle.team_sets.proofs.Arrivals.{first_set, in_append-left}
use Rattle.team_sets.proofs.Connects.{next_parts}
use Rattle.team_sets.proofs.Lists.{any_end}
use Rattle.team_sets.proofs.OrderLeast.{has_name-placed, in_filter, of_filter}
use Rattle.team_sets.proofs.Pasts.{all_names, any_of, in_more}
use Rattle.team_sets.proofs.SameSet.{set-filter}
use Rattle.team_sets.proofs.Sorted.{ascending-members, ascending-ascends, names-strict, set-apart}
use Rattle.team_model.specs.Judging.{name_of, order_of, prev_of}
use Rattle.team_model.specs.declared.terms.Link.{Link}
use Rattle.link_text.specs.LinkText.{Ascends}
use Rattle.link_graph.specs.Heads.{heads_of, is_parent_in}

abbrev own : Name → Name
own n = n

in_append-right : (z : Link) (xs ys : List Link) → IsIn z ys → IsIn z (xs ++ ys)
in_append-right z [] ys k = k
in_append-right z (x ∷ xs) ys k = inr (in_append-right z xs ys k)

pub ascends_of : (ns : List Name) → IsAscending name_lt ns → Ascends ns
ascends_of [] h = tt
ascends_of (n ∷ []) h = tt
ascends_of (n ∷ m ∷ ns) h = (h.0.0, ascends_of (m ∷ ns) h.1)

name_of_in : (xs : List Link) (x : Link) → IsIn x xs → IsIn x.name (names name_of xs)
name_of_in [] x k = absurd k
name_of_in (y ∷ ys) x (inl e) = inl (ap (λ (l : Link). l.name) e)
name_of_in (y ∷ ys) x (inr k) = inr (name_of_in ys x k)

module _ (links : List Link) (differ : NamesDiffer name_of links) where
  -- no connected link stands twice
  pub order_set : IsSet name_of (order_of links)
  order_set = first_set name_of prev_of [] (order_of links) (order_first name_of prev_of links differ)

  -- the heads ascend
  pub heads_ascending : IsAscending name_lt (heads_of links)
  unfolding IsDistinct
  heads_ascending =
      let keeps = λ (n : Name). not (is_parent_in (order_of links) n) in
      let whole : IsSet own (names name_of (order_of links)) = subst (λ (l : List Name). IsDistinct same_name l) (sym (map-id (names name_of (order_of links)))) order_set in
      let ns = filter keeps (names name_of (order_of links)) in
      ascending-ascends name_lt (names-strict own) ns (set-apart own ns (set-filter own keeps (names name_of (order_of links)) whole))

  pub heads_ascend : Ascends (heads_of links)
  heads_ascend = ascends_of (heads_of links) heads_ascending

  -- a head is the name of a connected link
  pub head_in : (n : Name) → IsIn n (heads_of links) → IsIn n (names name_of (order_of links))
  head_in n k =
      let ns = filter (λ (n : Name). not (is_parent_in (order_of links) n)) (names name_of (order_of links)) in
      (of_filter (λ (m : Name). not (is_parent_in (order_of links) m)) n (names name_of (order_of links)) ((ascending-members name_lt ns).forth n k)).0

  -- a connected link that is no connected link's parent is a head
  pub head_from : (h : Link) → IsIn h (order_of links) → is_parent_in (order_of links) h.name ≡ false → IsIn h.name (heads_of links)
  head_from h k free =
      let ns = filter (λ (n : Name). not (is_parent_in (order_of links) n)) (names name_of (order_of links)) in
      (ascending-members name_lt ns).back h.name
      (in_filter (λ (m : Name). not (is_parent_in (order_of links) m)) h.name (names name_of (order_of links)) (name_of_in (order_of links) h k)
      (not_from_false (is_parent_in (order_of links) h.name) free))

  -- x is the link h, or an ancestor of it
  abbrev pub IsUnder : Link → Link → Type 0
  IsUnder x h = (h ≡ x) ⊎ (is_before name_of prev_of links x.name h ≡ true)

  -- one of these links that none of them has as a parent, and x under it
  abbrev pub IsCovered : List Link → Link → Type 0
  IsCovered placed x = (h : Link) × IsIn h placed × (is_parent_in placed h.name ≡ false) × IsUnder x h

  -- the parents of these links are among them
  abbrev IsClosed : List Link → Type 0
  IsClosed placed = (z : Link) (n : Name) → IsIn z placed → has_name z.prev n ≡ true → has_name (names name_of placed) n ≡ true

  under_child : (x h y : Link) → IsIn y (order_of links) → IsIn h links → has_name y.prev h.name ≡ true → IsUnder x h → is_before name_of prev_of links x.name y ≡ true
  under_child x h y ky kh parent (inl e) =
      unrolled name_of prev_of links differ y ky x.name
      ∙ or_left (has_name y.prev x.name) (list_any (is_before name_of prev_of links x.name) (named name_of prev_of links y.prev))
      (subst (λ (z : Link). has_name y.prev z.name ≡ true) e parent)
  under_child x h y ky kh parent (inr before) =
      transitive name_of prev_of links differ y h ky kh x.name
      (unrolled name_of prev_of links differ y ky h.name
      ∙ or_left (has_name y.prev h.name) (list_any (is_before name_of prev_of links h.name) (named name_of prev_of links y.prev)) parent)
      before

  module _ (placed : List Link) (y : Link) (within : (z : Link) → IsIn z placed → IsIn z (order_of links)) (here : IsIn y (order_of links))
      (closed : IsClosed placed) (next : is_next name_of prev_of placed y ≡ true) where
    new_name : has_name (names name_of placed) y.name ≡ false
    new_name = (next_parts name_of prev_of placed y next).0

    parents_placed : (n : Name) → has_name y.prev n ≡ true → has_name (names name_of placed) n ≡ true
    parents_placed n h = all_names (has_name (names name_of placed)) y.prev n (next_parts name_of prev_of placed y next).1 h

    named_more : (n : Name) → has_name (names name_of placed) n ≡ true → has_name (names name_of (placed ++ y ∷ [])) n ≡ true
    named_more n h = has_name-placed name_of prev_of placed placed y n ∙ or_left (has_name (names name_of placed) n) (same_name y.name n) h

    pub closed_more : IsClosed (placed ++ y ∷ [])
    closed_more z n k h = go (in_more placed y z k)
      where
        go : IsIn z placed ⊎ (y ≡ z) → has_name (names name_of (placed ++ y ∷ [])) n ≡ true
        go (inl j) = named_more n (closed z n j h)
        go (inr e) = named_more n (parents_placed n (subst (λ (w : Link). has_name w.prev n ≡ true) (sym e) h))

    -- the new link is no parent of those before it, nor its own
    new_head : is_parent_in (placed ++ y ∷ []) y.name ≡ false
    new_head = any_end (λ (z : Link). has_name z.prev y.name) placed y ∙ go (is_parent_in placed y.name) refl (has_name y.prev y.name) refl
      where
        go : (b : Bool) → is_parent_in placed y.name ≡ b → (d : Bool) → has_name y.prev y.name ≡ d → (is_parent_in placed y.name || has_name y.prev y.name) ≡ false
        go true e d f =
            let z = any_of (λ (z : Link). has_name z.prev y.name) placed e in
            absurd (false≢true (sym new_name ∙ closed z.0 y.name z.1 z.2))
        go false e true f = absurd (false≢true (sym new_name ∙ parents_placed y.name f))
        go false e false f = rw (e, f) refl

    last_in : IsIn y (placed ++ y ∷ [])
    last_in = in_append-right y placed (y ∷ []) (inl refl)

    pub covered_more : ((x : Link) → IsIn x placed → IsCovered placed x) → (x : Link) → IsIn x (placed ++ y ∷ []) → IsCovered (placed ++ y ∷ []) x
    covered_more covers x k = go (in_more placed y x k)
      where
        -- the head of before stays one, or the new link is its child
        still : (c : IsCovered placed x) → (b : Bool) → has_name y.prev c.0.name ≡ b → IsCovered (placed ++ y ∷ []) x
        still c true e = (y, last_in, new_head, inr (under_child x c.0 y here (in_links name_of prev_of links differ c.0 (within c.0 c.1)) e c.3))
        still c false e = (
          c.0,
          in_append-left placed (y ∷ []) c.0 c.1,
          any_end (λ (z : Link). has_name z.prev c.0.name) placed y ∙ rw (c.2, e) refl,
          c.3,
        )

        go : IsIn x placed ⊎ (y ≡ x) → IsCovered (placed ++ y ∷ []) x
        go (inl j) = let c = covers x j in still c (has_name y.prev c.0.name) refl
        go (inr e) = (y, last_in, new_head, inl e)

  covered_all : (placed rest : List Link) → ((z : Link) → IsIn z (placed ++ rest) → IsIn z (order_of links)) → ParentsFirst name_of prev_of placed rest → IsClosed placed
      → ((x : Link) → IsIn x placed → IsCovered placed x) → (x : Link) → IsIn x (placed ++ rest) → IsCovered (placed ++ rest) x
  covered_all placed [] within first closed covers = subst (λ (p : List Link). (x : Link) → IsIn x p → IsCovered p x) (sym (append-nil placed)) covers
  covered_all placed (y ∷ ys) within first closed covers =
      let here : IsIn y (order_of links) = within y (in_append-right y placed (y ∷ ys) (inl refl)) in
      let front : (z : Link) → IsIn z placed → IsIn z (order_of links) = λ z k. within z (in_append-left placed (y ∷ ys) z k) in
      let whole : (placed ++ y ∷ []) ++ ys ≡ placed ++ y ∷ ys = append_assoc placed (y ∷ []) ys in
      subst (λ (p : List Link). (x : Link) → IsIn x p → IsCovered p x) whole
      (covered_all (placed ++ y ∷ []) ys (λ z k. within z (subst (IsIn z) whole k)) first.1 (closed_more placed y front here closed first.0)
      (covered_more placed y front here closed first.0 covers))

  -- each connected link is under a head
  pub covered : (x : Link) → IsIn x (order_of links) → IsCovered (order_of links) x
  covered x k = covered_all [] (order_of links) (λ z j. j) (order_first name_of prev_of links differ) (λ z n j h. absurd j) (λ z j. absurd j) x k
