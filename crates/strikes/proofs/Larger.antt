-- In a larger set, what is connected in the smaller one has the ancestors that it has there, so it is lawful in both or in neither; and what
-- was struck by removals alone that don't stand any more is resolved again.
use Rattle.std.proofs.Common.{◌≡◌, true, false, not, ◌&&◌, List, [], is_none, refl, sym, ◌∙◌, ap, subst, length, ◌≤◌}
use Rattle.team_sets.specs.Names.{Name, same_name}
use Rattle.team_sets.specs.Members.{HaveSameMembers, IsIn}
use Rattle.team_sets.specs.Ancestry.{are_concurrent, is_before}
use Rattle.team_sets.specs.Connected.{IsConnected, joins}
use Rattle.team_sets.specs.OrderLaws.{NamesDiffer}
use Rattle.team_sets.proofs.Agree.{same_ancestors}
use Rattle.team_sets.proofs.Ancestors.{all_of, differ-past, in_links, of_order, order_first, order-le}
use Rattle.team_sets.proofs.Arrivals.{first_set, has_joined}
use Rattle.team_sets.proofs.ConnectedLaw.{order_connected}
use Rattle.team_sets.proofs.OrderLeast.{in_filter, of_filter, order_laws}
use Rattle.team_sets.proofs.Parts.{name_in}
use Rattle.team_sets.proofs.Pasts.{one_named, reached_connected}
use Rattle.team_sets.proofs.SameSet.{length_among}
use Rattle.team_model.specs.Strikes.{is_striking}
use Rattle.team_model.specs.Judging.{Rules, lawful, name_of, order_of, past_of, prev_of, resolved, unlawful_reason}
use Rattle.team_model.specs.declared.terms.Link.{Link}
use Rattle.team_model.proofs.OfOrder.{set_means_same}
use Rattle.strikes.specs.RemovalLaws.{IsStruckBy, standing_removals}
use Rattle.strikes.proofs.Removals.{of-stood, unless-struck}

module _ (rules : Rules) (links others : List Link) (apart : NamesDiffer name_of others) (more : (y : Link) → IsIn y links → IsIn y others) where
  differ : NamesDiffer name_of links
  differ x y k j e = apart x y (more x k) (more y j) e

  of-links : (x : Link) → IsIn x (order_of links) → IsIn x links
  of-links x k = in_links name_of prev_of links differ x k

  ordered : (x : Link) → IsIn x (lawful rules links) → IsIn x (order_of links)
  ordered x k = (of_filter (λ y. is_none (unlawful_reason rules links y)) x (order_of links) k).0

  short : length (order_of links) ≤ length others
  short =
      length_among name_of (order_of links) others (first_set name_of prev_of [] (order_of links) (order_first name_of prev_of links differ))
      (λ x k. more x (of-links x k))

  before-alike : (x : Link) → IsIn x (order_of links) → (a : Name) → is_before name_of prev_of links a x ≡ is_before name_of prev_of others a x
  before-alike x k a =
      same_ancestors name_of prev_of links others differ apart (order_of links) (of_order name_of prev_of links differ)
      (all_of (λ y. IsIn y others) (order_of links) (λ y j. more y (of-links y j))) (order_first name_of prev_of links differ)
      x k (length links) (length others) a (order-le name_of prev_of links) short

  beside-alike : (s x : Link) → IsIn s (order_of links) → IsIn x (order_of links) → are_concurrent name_of prev_of links s x ≡ are_concurrent name_of prev_of others s x
  beside-alike s x k j =
      ap (λ b. not (same_name s.name x.name) && not b && not (is_before name_of prev_of links x.name s)) (before-alike x j s.name)
      ∙ ap (λ b. not (same_name s.name x.name) && not (is_before name_of prev_of others s.name x) && not b) (before-alike s k x.name)

  past-alike : (x : Link) → IsIn x (order_of links) → HaveSameMembers (past_of links x) (past_of others x)
  past-alike x k = record { forth = forth; back = back }
    where
      forth : (y : Link) → IsIn y (past_of links x) → IsIn y (past_of others x)
      forth y j =
          let of = of_filter (λ z. is_before name_of prev_of links z.name x) y links j in
          in_filter (λ z. is_before name_of prev_of others z.name x) y others (more y of.0) (sym (before-alike x k y.name) ∙ of.1)

      back : (y : Link) → IsIn y (past_of others x) → IsIn y (past_of links x)
      back y j =
          let of = of_filter (λ z. is_before name_of prev_of others z.name x) y others j in
          let before : is_before name_of prev_of links y.name x ≡ true = before-alike x k y.name ∙ of.1 in
          let z = one_named name_of (order_of links) y.name (reached_connected name_of prev_of links differ x k (length links) y.name before) in
          let same : z.0 ≡ y = apart z.0 y (more z.0 (of-links z.0 z.1)) of.0 z.2 in
          in_filter (λ z. is_before name_of prev_of links z.name x) y links (subst (λ w. IsIn w links) same (of-links z.0 z.1)) before

  reason-alike : (x : Link) → IsIn x (order_of links) → unlawful_reason rules links x ≡ unlawful_reason rules others x
  reason-alike x k =
      ap (λ t. rules.refusal t x.entry)
      (set_means_same rules (past_of links x) (past_of others x) (differ-past name_of prev_of links differ x) (differ-past name_of prev_of others apart x) (past-alike x k)).teams

  connected-more : (n : Name) → IsConnected name_of prev_of links n → IsConnected name_of prev_of others n
  connected-more n (joins x m k e parents) = joins x n (more x k) e (λ p j. connected-more p (parents p j))

  lawful-more : (x : Link) → IsIn x (lawful rules links) → IsIn x (lawful rules others)
  lawful-more x k =
      let of = of_filter (λ y. is_none (unlawful_reason rules links y)) x (order_of links) k in
      let joined = (order_connected name_of prev_of links differ x.name).0 (name_in name_of prev_of (order_of links) x of.0 x.name refl) in
      in_filter (λ y. is_none (unlawful_reason rules others y)) x (order_of others)
      (has_joined name_of prev_of others (order_of others) apart (order_laws name_of prev_of others apart).0 x (more x (of-links x of.0)) (connected-more x.name joined))
      (ap is_none (sym (reason-alike x of.0)) ∙ of.1)

  pub gives-back : (x : Link) → IsIn x (lawful rules links) → is_striking x.entry.act ≡ false
      → ((s : Link) → IsStruckBy rules links x s → IsIn s (standing_removals rules others) → ⊥)
      → ((s : Link) → IsStruckBy rules others x s → IsIn s (standing_removals rules links))
      → IsIn x (resolved rules others)
  gives-back x k plain gone stood = (unless-struck rules others x (lawful-more x k) plain).1 free
    where
      free : (s : Link) → IsStruckBy rules others x s → ⊥
      free s is =
          let of = of-stood rules links s (stood s is) in
          gone s (record { is_lawful = of.0; removes = of.1; stands = stood s is; beside = beside-alike s x (ordered s of.0) (ordered x k) ∙ is.beside; strikes = is.strikes }) is.stands
