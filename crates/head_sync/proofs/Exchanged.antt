-- What one end gives is what the other lacks: each link that is connected at the one is given, or connected at the other.
use Rattle.std.proofs.Common.{◌≡◌, ◌⊎◌, inl, inr, Bool, true, false, not, ◌&&◌, ◌||◌, List, [], ◌∷◌, filter, refl, sym, ◌∙◌, ap, subst}
use Rattle.std.specs.List.{list_any}
use Rattle.std.proofs.lemmas.Bool.{and_from, false≢true, not_from_false, or_cases, or_left, or_right}
use Rattle.team_sets.specs.Names.{Name, has_name, same_name}
use Rattle.team_sets.specs.Members.{IsIn}
use Rattle.team_sets.specs.Ancestry.{is_before, named}
use Rattle.team_sets.specs.Order.{names}
use Rattle.team_sets.specs.OrderLaws.{NamesDiffer}
use Rattle.team_sets.proofs.Agree.{any_in}
use Rattle.team_sets.proofs.Distinct.{distinct-differ}
use Rattle.team_sets.proofs.OrderLeast.{in_filter, of_filter}
use Rattle.team_sets.proofs.Parts.{has_of_in}
use Rattle.team_sets.proofs.Pasts.{any_of, same_name-is}
use Rattle.team_model.specs.Judging.{name_of, order_of, prev_of}
use Rattle.team_model.specs.declared.terms.Link.{Link}
use Rattle.link_text.specs.TeamFile.{IsHeld}
use Rattle.link_graph.specs.Below.{below_of, is_connected, is_within}
use Rattle.link_graph.specs.Heads.{heads_of}
use Rattle.link_graph.specs.Held.{Held}
use Rattle.head_sync.specs.Sessions.{lacking}
use Rattle.head_sync.proofs.Covered.{IsCovered, IsUnder, covered, head_from, head_in}
use Rattle.head_sync.proofs.HeldSets.{IsSoundHeld}
use Rattle.head_sync.proofs.Shared.{shared_under}

module _ (k m : Held) (hk : IsSoundHeld k) (hm : IsSoundHeld m) (same : (l o : Link) → IsIn l k.links → IsIn o (order_of m.links) → l.name ≡ o.name → l ≡ o) where
  ours : NamesDiffer name_of k.links
  ours = distinct-differ name_of k.links hk.set

  theirs : NamesDiffer name_of m.links
  theirs = distinct-differ name_of m.links hm.set

  -- what is asked for, and the marks
  abbrev asked : List Name
  asked = lacking k (heads_of m.links)

  abbrev marks : List Name
  marks = heads_of k.links

  in_names : (ns : List Name) (n : Name) → has_name ns n ≡ true → IsIn n ns
  in_names [] n e = absurd (false≢true e)
  in_names (a ∷ ns) n e = go (or_cases (same_name a n) (has_name ns n) e) (in_names ns n)
    where
      go : (same_name a n ≡ true) ⊎ (has_name ns n ≡ true) → (has_name ns n ≡ true → IsIn n ns) → IsIn n (a ∷ ns)
      go (inl s) more = inl (same_name-is a n s)
      go (inr h) more = inr (more h)

  mark_connected : (n : Name) → has_name marks n ≡ true → is_connected k.links n ≡ true
  mark_connected n e = has_of_in name_of prev_of (names name_of (order_of k.links)) n (head_in k.links ours n (in_names marks n e))

  module _ (x : Link) (here : IsIn x (order_of m.links)) where
    -- x is under a head of m that is asked for
    under_asked : (h : Link) → IsIn h (order_of m.links) → has_name asked h.name ≡ true → IsUnder m.links theirs x h → is_within m.links asked x ≡ true
    under_asked h kh a (inl e) =
        or_left (has_name asked x.name) (list_any (is_before name_of prev_of m.links x.name) (named name_of prev_of (order_of m.links) asked))
        (subst (λ (l : Link). has_name asked l.name ≡ true) e a)
    under_asked h kh a (inr before) =
        or_right (has_name asked x.name) (list_any (is_before name_of prev_of m.links x.name) (named name_of prev_of (order_of m.links) asked))
        (any_in (is_before name_of prev_of m.links x.name) (named name_of prev_of (order_of m.links) asked) h
        (in_filter (λ (z : Link). has_name asked z.name) h (order_of m.links) kh a) before)

    -- where x is under a mark, it is connected in k
    under_mark : is_within m.links marks x ≡ true → is_connected k.links x.name ≡ true
    under_mark e = go (or_cases (has_name marks x.name) (list_any (is_before name_of prev_of m.links x.name) (named name_of prev_of (order_of m.links) marks)) e)
      where
        go : (has_name marks x.name ≡ true) ⊎ (list_any (is_before name_of prev_of m.links x.name) (named name_of prev_of (order_of m.links) marks) ≡ true) → is_connected k.links x.name ≡ true
        go (inl h) = mark_connected x.name h
        go (inr any) =
            let z = any_of (is_before name_of prev_of m.links x.name) (named name_of prev_of (order_of m.links) marks) any in
            let there = of_filter (λ (w : Link). has_name marks w.name) z.0 (order_of m.links) z.1 in
            shared_under k.links m.links ours theirs same z.0 x there.0 (mark_connected z.0.name there.1) (inr z.2)

    pub given_or_connected : (is_connected k.links x.name ≡ true) ⊎ IsIn x (below_of m.links asked marks)
    given_or_connected = let c = covered m.links theirs x here in by_head c (is_connected k.links c.0.name) refl
      where
        by_marks : is_within m.links asked x ≡ true → (b : Bool) → is_within m.links marks x ≡ b → (is_connected k.links x.name ≡ true) ⊎ IsIn x (below_of m.links asked marks)
        by_marks w true e = inl (under_mark e)
        by_marks w false e =
            inr (in_filter (λ (z : Link). is_within m.links asked z && not (is_within m.links marks z)) x (order_of m.links) here
            (and_from (is_within m.links asked x) (not (is_within m.links marks x)) w (not_from_false (is_within m.links marks x) e)))

        by_head : (c : IsCovered m.links theirs (order_of m.links) x) → (b : Bool) → is_connected k.links c.0.name ≡ b → (is_connected k.links x.name ≡ true) ⊎ IsIn x (below_of m.links asked marks)
        by_head c true e = inl (shared_under k.links m.links ours theirs same c.0 x c.1 e c.3)
        by_head c false e =
            let in_heads = head_from m.links theirs c.0 c.1 c.2 in
            let lacks : has_name asked c.0.name ≡ true =
            has_of_in name_of prev_of asked c.0.name (in_filter (λ (n : Name). not (is_connected k.links n)) c.0.name (heads_of m.links) in_heads (not_from_false (is_connected k.links c.0.name) e)) in
            by_marks (under_asked c.0 c.1 lacks c.3) (is_within m.links marks x) refl
