-- A part of a set that has the parents of each of its links: its lawful links are those of the set, and settlement of them is as in the
-- whole set.
use Rattle.std.proofs.Common.{◌≡◌, ◌⊎◌, ℕ, zero, suc, Bool, true, not, ◌&&◌, List, is_none, sym, ◌∙◌, ap, subst, inl, inr, length, filter, ◌≤◌, arith}
use Rattle.std.specs.List.{list_any, AllByRecursion}
use Rattle.std.proofs.lemmas.Bool.{false≢true, or_cases}
use Rattle.team_sets.specs.Names.{Name, same_name, has_name}
use Rattle.team_sets.specs.Members.{IsIn}
use Rattle.team_sets.specs.Ancestry.{is_before, is_before_within, named}
use Rattle.team_sets.specs.OrderLaws.{NamesDiffer}
use Rattle.team_sets.specs.PartLaws.{HasParents}
use Rattle.team_sets.specs.WaitingLaws.{HaveSameConnected}
use Rattle.team_sets.proofs.Agree.{same_ancestors}
use Rattle.team_sets.proofs.Ancestors.{all_of, filter_filter, in_links, order_first, order-le}
use Rattle.team_sets.proofs.Lists.{filter_alike}
use Rattle.team_sets.proofs.Heights.{same_heights}
use Rattle.team_sets.proofs.OrderLeast.{length-filter-le, of_filter, order_laws}
use Rattle.team_sets.proofs.Parts.{order-part}
use Rattle.team_sets.proofs.Pasts.{all_at, any_of}
use Rattle.team_model.specs.Judging.{Rules, name_of, prev_of, order_of, past_of, resolved_from, fold_team, team, lawful, resolved, unlawful_reason}
use Rattle.team_model.specs.declared.terms.Link.{Link}
use Rattle.team_model.proofs.PastTeams.{filter_comm}
use Rattle.team_model.proofs.Teams.{team_is_fold}
use Rattle.replica.proofs.Alike.{resolved-alike}

module _ (rules : Rules) (links : List Link) (differ : NamesDiffer name_of links) (part : Link → Bool) (closed : HasParents name_of prev_of links part) where
  -- what is before a link of the part is of the part
  closed_back : (n : ℕ) (y z : Link) → IsIn y links → part y ≡ true → IsIn z links → is_before_within name_of prev_of n links z.name y ≡ true → part z ≡ true
  closed_back zero y z k e j h = absurd (false≢true h)
  closed_back (suc n) y z k e j h =
      go (or_cases (has_name y.prev z.name) (list_any (is_before_within name_of prev_of n links z.name) (named name_of prev_of links y.prev)) h) (λ p i f g. closed_back n p z i f j g)
    where
      go : (has_name y.prev z.name ≡ true) ⊎ (list_any (is_before_within name_of prev_of n links z.name) (named name_of prev_of links y.prev) ≡ true)
          → ((p : Link) → IsIn p links → part p ≡ true → is_before_within name_of prev_of n links z.name p ≡ true → part z ≡ true) → part z ≡ true
      go (inl d) more = closed y z k e j d
      go (inr d) more =
          let p = any_of (is_before_within name_of prev_of n links z.name) (named name_of prev_of links y.prev) d in
          let of = of_filter (λ w. has_name y.prev w.name) p.0 links p.1 in
          more p.0 of.0 (closed y p.0 k e of.0 of.1) p.2

  pub part_differ : NamesDiffer name_of (filter part links)
  part_differ x y k j e = differ x y (of_filter part x links k).0 (of_filter part y links j).0 e

  pub part_order : order_of (filter part links) ≡ filter part (order_of links)
  part_order = order-part name_of prev_of links part differ closed

  of_part : AllByRecursion (λ x. IsIn x (filter part links)) (order_of (filter part links))
  of_part = (order_laws name_of prev_of (filter part links) part_differ).0.of_links

  of_whole : AllByRecursion (λ x. IsIn x links) (order_of (filter part links))
  of_whole =
      all_of (λ z. IsIn z links) (order_of (filter part links))
      (λ z i. (of_filter part z links (all_at (λ w. IsIn w (filter part links)) (order_of (filter part links)) of_part z i)).0)

  within : length (order_of (filter part links)) ≤ length (filter part links)
  within = order-le name_of prev_of (filter part links)

  fewer : length (filter part links) ≤ length links
  fewer = length-filter-le name_of prev_of links part links

  part_ancestors : (y : Link) → IsIn y (order_of (filter part links)) → (a : Name) → is_before name_of prev_of (filter part links) a y ≡ is_before name_of prev_of links a y
  part_ancestors y j a =
      same_ancestors name_of prev_of (filter part links) links part_differ differ (order_of (filter part links)) of_part of_whole (order_first name_of prev_of (filter part links) part_differ)
      y j (length (filter part links)) (length links) a within (omega (arith, within, fewer))

  pub part_past : (y : Link) → IsIn y (order_of (filter part links)) → past_of (filter part links) y ≡ past_of links y
  part_past y j =
      filter_alike (λ z. is_before name_of prev_of (filter part links) z.name y) (λ z. is_before name_of prev_of links z.name y) (filter part links) (λ z i. part_ancestors y j z.name)
      ∙ filter_filter part (λ z. is_before name_of prev_of links z.name y) links (λ z e i. closed_back (length links) y z in_set.0 in_set.1 i e)
    where
      in_order : IsIn y (order_of links) × (part y ≡ true)
      in_order = of_filter part y (order_of links) (subst (λ l. IsIn y l) part_order j)

      in_set : IsIn y links × (part y ≡ true)
      in_set = (in_links name_of prev_of links differ y in_order.0, in_order.1)

  -- the part and the whole say the same of the links of the part
  pub part_connected : HaveSameConnected name_of prev_of (filter part links) links
  part_connected = record {
    ancestors = part_ancestors;
    pasts = λ x k. ap (λ l. order_of l) (part_past x k);
    heights = λ x k.
        same_heights name_of prev_of (filter part links) links part_differ differ (order_of (filter part links)) of_part of_whole (order_first name_of prev_of (filter part links) part_differ)
        x k (length (filter part links)) (length links) within (omega (arith, within, fewer));
    concurrent = λ x y k j.
        ap (λ b. not (same_name x.name y.name) && not b && not (is_before name_of prev_of (filter part links) y.name x)) (part_ancestors y j x.name)
        ∙ ap (λ b. not (same_name x.name y.name) && not (is_before name_of prev_of links x.name y) && not b) (part_ancestors x k y.name);
  }

  pub lawful_part : lawful rules (filter part links) ≡ filter part (lawful rules links)
  lawful_part =
      filter_alike (λ y. is_none (unlawful_reason rules (filter part links) y)) (λ y. is_none (unlawful_reason rules links y)) (order_of (filter part links))
      (λ y j. ap (λ l. is_none (rules.refusal (team rules l) y.entry)) (part_past y j))
      ∙ ap (λ l. filter (λ y. is_none (unlawful_reason rules links y)) l) part_order
      ∙ filter_comm (λ y. is_none (unlawful_reason rules links y)) part (order_of links)

  -- a lawful link of the part is connected in it
  pub of_lawful_part : (x : Link) → IsIn x (filter part (lawful rules links)) → IsIn x (order_of (filter part links))
  of_lawful_part x k =
      (of_filter (λ y. is_none (unlawful_reason rules (filter part links) y)) x (order_of (filter part links)) (subst (λ l. IsIn x l) (sym lawful_part) k)).0

  -- what is resolved of the part is what settlement in the whole set leaves of its lawful links
  pub resolved_part : resolved rules (filter part links) ≡ resolved_from rules links (filter part (lawful rules links))
  resolved_part =
      ap (λ l. resolved_from rules (filter part links) l) lawful_part
      ∙ resolved-alike rules (filter part links) links part_connected (filter part (lawful rules links)) of_lawful_part

  pub team_part : team rules (filter part links) ≡ fold_team rules (resolved_from rules links (filter part (lawful rules links)))
  team_part = team_is_fold rules (filter part links) part_differ ∙ ap (λ l. fold_team rules l) resolved_part
