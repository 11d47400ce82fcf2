-- What two held sets share: where a link is connected in both, its ancestors are.
use Rattle.std.proofs.Common.{◌≡◌, ◌⊎◌, ℕ, zero, suc, true, List, [], length, refl, sym, ◌∙◌, ap, subst, inl, inr}
use Rattle.std.specs.List.{list_any}
use Rattle.std.proofs.lemmas.Bool.{false≢true, or_cases, or_left}
use Rattle.team_sets.specs.Names.{Name, has_name}
use Rattle.team_sets.specs.Members.{IsIn}
use Rattle.team_sets.specs.Ancestry.{is_before, is_before_within, named}
use Rattle.team_sets.specs.Order.{names}
use Rattle.team_sets.specs.OrderLaws.{NamesDiffer}
use Rattle.team_sets.proofs.Ancestors.{in_links}
use Rattle.team_sets.proofs.OrderLeast.{of_filter}
use Rattle.team_sets.proofs.Pasts.{any_of, one_named, reached_connected}
use Rattle.team_model.specs.Judging.{name_of, order_of, prev_of}
use Rattle.team_model.specs.declared.terms.Link.{Link}
use Rattle.link_graph.specs.Below.{is_connected}
use Rattle.head_sync.proofs.Covered.{IsUnder}

module _ (a b : List Link) (ours : NamesDiffer name_of a) (theirs : NamesDiffer name_of b) (same : (l m : Link) → IsIn l a → IsIn m (order_of b) → l.name ≡ m.name → l ≡ m) where
  -- the connected link of a name is in the order
  there : (links : List Link) → NamesDiffer name_of links → (p : Link) → IsIn p links → is_connected links p.name ≡ true → IsIn p (order_of links)
  there links differ p k c =
      let q = one_named name_of (order_of links) p.name c in
      subst (λ (l : Link). IsIn l (order_of links)) (differ q.0 p (in_links name_of prev_of links differ q.0 q.1) k q.2) q.1

  -- a connected link of b whose name is connected in a is connected there
  pub in_both : (p : Link) → IsIn p (order_of b) → is_connected a p.name ≡ true → IsIn p (order_of a)
  in_both p k c =
      let q = one_named name_of (order_of a) p.name c in
      subst (λ (l : Link). IsIn l (order_of a)) (same q.0 p (in_links name_of prev_of a ours q.0 q.1) k q.2) q.1

  parents_in : (links : List Link) → NamesDiffer name_of links → (h : Link) → IsIn h (order_of links) → (n : Name) → has_name h.prev n ≡ true → is_connected links n ≡ true
  parents_in links differ h k n e =
      reached_connected name_of prev_of links differ h k 1 n (or_left (has_name h.prev n) (list_any (is_before_within name_of prev_of 0 links n) (named name_of prev_of links h.prev)) e)

  -- the ancestors of a link that is connected in both are connected in a
  pub shared : (n : ℕ) (h : Link) → IsIn h (order_of b) → IsIn h (order_of a) → (x : Name) → is_before_within name_of prev_of n b x h ≡ true → is_connected a x ≡ true
  shared zero h kb ka x e = absurd (false≢true e)
  shared (suc n) h kb ka x e =
      go (or_cases (has_name h.prev x) (list_any (is_before_within name_of prev_of n b x) (named name_of prev_of b h.prev)) e) (λ p. shared n p)
    where
      go : (has_name h.prev x ≡ true) ⊎ (list_any (is_before_within name_of prev_of n b x) (named name_of prev_of b h.prev) ≡ true)
          → ((p : Link) → IsIn p (order_of b) → IsIn p (order_of a) → (x : Name) → is_before_within name_of prev_of n b x p ≡ true → is_connected a x ≡ true) → is_connected a x ≡ true
      go (inl d) more = parents_in a ours h ka x d
      go (inr d) more =
          let p = any_of (is_before_within name_of prev_of n b x) (named name_of prev_of b h.prev) d in
          let parent = of_filter (λ (z : Link). has_name h.prev z.name) p.0 b p.1 in
          let here = there b theirs p.0 parent.0 (parents_in b theirs h kb p.0.name parent.1) in
          more p.0 here (in_both p.0 here (parents_in a ours h ka p.0.name parent.1)) x p.2

  -- so is what is under a link of b whose name is connected in a
  pub shared_under : (h x : Link) → IsIn h (order_of b) → is_connected a h.name ≡ true → IsUnder b theirs x h → is_connected a x.name ≡ true
  shared_under h x kb c (inl e) = subst (λ (l : Link). is_connected a l.name ≡ true) e c
  shared_under h x kb c (inr before) = shared (length b) h kb (in_both h kb c) x.name before
