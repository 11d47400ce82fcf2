-- The verdicts by position: what becomes of each link before its turn, and at its turn.
use Rattle.std.proofs.Common.{◌≡◌, ℕ, Bool, true, false, ◌&&◌, ◌||◌, cond, List, [], ◌∷◌, Option, Some, None, is_none, refl, sym, ◌∙◌, ap, subst, inl, inr, length, map, get_or, slice_get, arith}
use Rattle.std.specs.List.{list_any}
use Rattle.std.specs.Option.{option_map_or}
use Rattle.std.specs.Cmp.Lexicographic.{nat_list_eq_equiv}
use Rattle.std.proofs.lemmas.Bool.{false≢true, and_from, and_parts, or_parts}
use Rattle.std.proofs.lemmas.List.{ext_get_or, length-map}
use Rattle.team_sets.specs.Names.{has_name}
use Rattle.team_sets.specs.Members.{IsIn}
use Rattle.team_sets.specs.Order.{names}
use Rattle.team_sets.specs.OrderLaws.{IsSet}
use Rattle.team_sets.specs.Settlement.{Decided, stands, struck, lost}
use Rattle.team_sets.specs.SettlementLaws.{StandsAsDecided}
use Rattle.team_sets.proofs.Agree.{any_in}
use Rattle.team_sets.proofs.Ancestors.{in_links, order_first}
use Rattle.team_sets.proofs.Arrivals.{first_set}
use Rattle.team_sets.proofs.Decisions.{find_none, find_of, none_found, stands_as_decided}
use Rattle.team_sets.proofs.OrderLeast.{in_filter, of_filter}
use Rattle.team_sets.proofs.Parts.{name_in}
use Rattle.team_sets.proofs.Pasts.{one_named}
use Rattle.team_sets.proofs.SameSet.{set-filter}
use Rattle.team_model.specs.State.{empty_state}
use Rattle.team_model.specs.Strikes.{is_striking}
use Rattle.team_model.specs.Judging.{name_of, prev_of, order_of, is_senior, lawful, resolved, standing_strikers, stays, strikers, strikes_in, team_rules, unlawful_reason, at_turn, lawful_verdict, striker_verdict, decision_in, first_striker, verdict}
use Rattle.team_model.specs.declared.terms.Link.{Link}
use Rattle.team_model.specs.declared.terms.Reason.{Reason}
use Rattle.team_model.specs.declared.terms.Verdict.{Verdict}
use Rattle.team_model.specs.declared.terms.Verdict.TheVariants.{Counts, Unlawful, Struck, Outranked, Waiting}
use Rattle.link_graph.specs.Held.{arrived_of}
use Rattle.link_graph.specs.Positions.{at_places}
use Rattle.team_sets.proofs.Lists.{some_at}
use Rattle.replica.specs.Judged.{turned}
use Rattle.replica.specs.Resolving.{decided_first, first_lawful, first_verdict}
use Rattle.link_graph.proofs.Arrived.{at_order, differ, ordered}
use Rattle.link_graph.proofs.Marks.{map_at}
use Rattle.replica.proofs.Turns.{turn_here, turn_in, turn_none, turned_at, length-turned}

is_false : (b : Bool) → (b ≡ true → ⊥) → b ≡ false
is_false true h = absurd (h refl)
is_false false h = refl

none_any : (p : Link → Bool) (xs : List Link) → ((x : Link) → IsIn x xs → p x ≡ false) → list_any p xs ≡ false
none_any p [] h = refl
none_any p (x ∷ xs) h = rw (h x (inl refl)) (none_any p xs (λ y k. h y (inr k)))

module _ (links : List Link) (set_of : IsSet name_of links) where
  abbrev law : List Link
  law = lawful team_rules links

  abbrev stood : List Link
  stood = standing_strikers team_rules links law

  abbrev is_lawful : Link → Bool
  is_lawful x = is_none (unlawful_reason team_rules links x)

  decides : StandsAsDecided (is_senior links law) (strikes_in links) (strikers links law)
  decides = stands_as_decided (is_senior links law) (strikes_in links) (strikers links law)

  not_own : (x : Link) → (strikes_in links x x || strikes_in links x x) ≡ false
  not_own x = rw (nat_list_eq_equiv.refl x.name) refl

  of_law : (x : Link) → IsIn x law → IsIn x links
  of_law x k = in_links name_of prev_of links (differ links set_of) x (of_filter is_lawful x (order_of links) k).0

  of_stood : (s : Link) → IsIn s stood → IsIn s law
  of_stood s k = (of_filter (λ x. is_striking x.entry.act) s law (decides.members s k)).0

  pub is_stood : (x : Link) → IsIn x law → has_name (map name_of stood) x.name ≡ true → IsIn x stood
  is_stood x k h =
      let y = one_named name_of stood x.name h in
      subst (λ z. IsIn z stood) (differ links set_of y.0 x (of_law y.0 (of_stood y.0 y.1)) (of_law x k) y.2) y.1

  has_stood : (x : Link) → IsIn x stood → has_name (map name_of stood) x.name ≡ true
  has_stood x k = name_in name_of prev_of stood x k x.name refl

  -- a lawful link that no standing striker strikes
  pub unstruck_none : (x : Link) → list_any (λ s. strikes_in links s x) stood ≡ false → first_striker team_rules links law x ≡ None
  unstruck_none x free =
      none_found (λ s. has_name (map name_of stood) s.name && strikes_in links s x) law
      (λ s k. is_false (has_name (map name_of stood) s.name && strikes_in links s x)
      (λ h. let parts = and_parts (has_name (map name_of stood) s.name) (strikes_in links s x) h in
      false≢true (sym free ∙ any_in (λ z. strikes_in links z x) stood s (is_stood s k parts.0) parts.1)))

  none_unstruck : (x : Link) → first_striker team_rules links law x ≡ None → list_any (λ s. strikes_in links s x) stood ≡ false
  none_unstruck x e =
      none_any (λ s. strikes_in links s x) stood
      (λ s k. is_false (strikes_in links s x)
      (λ h. false≢true (sym (find_none (λ z. has_name (map name_of stood) z.name && strikes_in links z x) law e s (of_stood s k))
      ∙ and_from (has_name (map name_of stood) s.name) (strikes_in links s x) (has_stood s k) h)))

  resolved_set : IsSet name_of (resolved team_rules links)
  resolved_set =
      set-filter name_of (stays team_rules links law stood) law
      (set-filter name_of is_lawful (order_of links) (first_set name_of prev_of [] (order_of links) (order_first name_of prev_of links (differ links set_of))))

  -- a lawful link that stays is resolved, and one that doesn't isn't
  here : (x : Link) → IsIn x law → stays team_rules links law stood x ≡ true → IsIn x (resolved team_rules links)
  here x k e = in_filter (stays team_rules links law stood) x law k e

  not_resolved : (x : Link) → IsIn x links → (IsIn x (resolved team_rules links) → ⊥) → has_name (names name_of (resolved team_rules links)) x.name ≡ false
  not_resolved x k other =
      is_false (has_name (names name_of (resolved team_rules links)) x.name)
      (λ h. let y = one_named name_of (resolved team_rules links) x.name h in
      let in_law : IsIn y.0 law = (of_filter (stays team_rules links law stood) y.0 law y.1).0 in
      other (subst (λ z. IsIn z (resolved team_rules links)) (differ links set_of y.0 x (of_law y.0 in_law) k y.2) y.1))

  gone : (x : Link) → IsIn x links → (v : Verdict) → (IsIn x (resolved team_rules links) → ⊥) → turn_in team_rules empty_state (resolved team_rules links) x v ≡ v
  gone x k v other = turn_none team_rules empty_state (resolved team_rules links) x v (not_resolved x k other)

  has_turn : (x : Link) → IsIn x (resolved team_rules links) → turn_in team_rules empty_state (resolved team_rules links) x Counts ≡ at_turn team_rules links x
  has_turn x k = turn_here team_rules empty_state (resolved team_rules links) x Counts resolved_set k

  unstays : (x : Link) → stays team_rules links law stood x ≡ false → IsIn x (resolved team_rules links) → ⊥
  unstays x e k = false≢true (sym e ∙ (of_filter (stays team_rules links law stood) x law k).1)

  module _ (x : Link) (k : IsIn x (order_of links)) where
    in_set : IsIn x links
    in_set = in_links name_of prev_of links (differ links set_of) x k

    -- where it strikes
    module _ (in_law : IsIn x law) (strikes : is_striking x.entry.act ≡ true) where
      striker : IsIn x (strikers links law)
      striker = in_filter (λ z. is_striking z.entry.act) x law in_law strikes

      stays_standing : decision_in team_rules links law x ≡ stands → stays team_rules links law stood x ≡ true
      stays_standing e =
          let free : list_any (λ s. strikes_in links s x) stood ≡ false = none_any (λ s. strikes_in links s x) stood (λ s j. (or_parts (strikes_in links s x) (strikes_in links x s) (decides.unmet x s e j)).0) in
          rw (strikes, has_stood x (decides.stays x striker e), free) refl

      fallen : (d : Decided Link) → decision_in team_rules links law x ≡ d → (d ≡ stands → ⊥) → stays team_rules links law stood x ≡ false
      fallen d e other =
          let none : has_name (map name_of stood) x.name ≡ false = is_false (has_name (map name_of stood) x.name) (λ h. other (sym e ∙ (decides.decided (λ y j. not_own y) x striker).1 (is_stood x in_law h))) in
          rw (strikes, none) refl

      by_decision : (d : Decided Link) → decision_in team_rules links law x ≡ d → turn_in team_rules empty_state (resolved team_rules links) x (decided_first d) ≡ striker_verdict team_rules links x d
      by_decision stands e = has_turn x (here x in_law (stays_standing e))
      by_decision (struck s) e = gone x in_set (Struck s.name) (unstays x (fallen (struck s) e (λ h. cc)))
      by_decision (lost s) e = gone x in_set (Outranked s.name) (unstays x (fallen (lost s) e (λ h. cc)))

    -- where it doesn't
    module _ (in_law : IsIn x law) (strikes_not : is_striking x.entry.act ≡ false) where
      stays_free : first_striker team_rules links law x ≡ None → stays team_rules links law stood x ≡ true
      stays_free e = rw (strikes_not, none_unstruck x e) refl

      taken_out : (s : Link) → first_striker team_rules links law x ≡ Some s → stays team_rules links law stood x ≡ false
      taken_out s e =
          let found = find_of (λ z. has_name (map name_of stood) z.name && strikes_in links z x) law s e in
          let parts = and_parts (has_name (map name_of stood) s.name) (strikes_in links s x) found.1 in
          rw (strikes_not, any_in (λ z. strikes_in links z x) stood s (is_stood s found.0 parts.0) parts.1) refl

      by_striker : (o : Option Link) → first_striker team_rules links law x ≡ o
          → turn_in team_rules empty_state (resolved team_rules links) x (option_map_or (λ (s : Link). Struck s.name) o Counts) ≡ option_map_or (λ (s : Link). Struck s.name) o (at_turn team_rules links x)
      by_striker None e = has_turn x (here x in_law (stays_free e))
      by_striker (Some s) e = gone x in_set (Struck s.name) (unstays x (taken_out s e))

    by_kind : IsIn x law → (b : Bool) → is_striking x.entry.act ≡ b
        → turn_in team_rules empty_state (resolved team_rules links) x (cond b (decided_first (decision_in team_rules links law x)) (option_map_or (λ (s : Link). Struck s.name) (first_striker team_rules links law x) Counts))
        ≡ cond b (striker_verdict team_rules links x (decision_in team_rules links law x)) (option_map_or (λ (s : Link). Struck s.name) (first_striker team_rules links law x) (at_turn team_rules links x))
    by_kind in_law true e = by_decision in_law e (decision_in team_rules links law x) refl
    by_kind in_law false e = by_striker in_law e (first_striker team_rules links law x) refl

    by_reason : (o : Option Reason) → unlawful_reason team_rules links x ≡ o
        → turn_in team_rules empty_state (resolved team_rules links) x (option_map_or (λ r. Unlawful r) o (first_lawful links x)) ≡ option_map_or (λ r. Unlawful r) o (lawful_verdict team_rules links x)
    by_reason None e = by_kind (in_filter is_lawful x (order_of links) k (ap is_none e)) (is_striking x.entry.act) refl
    by_reason (Some r) e =
        gone x in_set (Unlawful r)
        (λ j. let in_law : IsIn x law = (of_filter (stays team_rules links law stood) x law j).0 in false≢true (sym (ap is_none e) ∙ (of_filter is_lawful x (order_of links) in_law).1))

    -- what comes of all turns is its verdict
    turn_is : turn_in team_rules empty_state (resolved team_rules links) x (first_verdict links x) ≡ verdict team_rules links x
    turn_is =
        by_reason (unlawful_reason team_rules links x) refl
        ∙ sym (ap (λ b. cond b (option_map_or (λ r. Unlawful r) (unlawful_reason team_rules links x) (lawful_verdict team_rules links x)) Waiting) (name_in name_of prev_of (order_of links) x k x.name refl))

  -- so it is with all
  pub verdicts_are : (ps : List ℕ) → at_places (arrived_of links) ps ≡ resolved team_rules links
      → turned team_rules (arrived_of links) empty_state ps (map (first_verdict links) (arrived_of links)) ≡ map (verdict team_rules links) (arrived_of links)
  verdicts_are ps is =
      ext_get_or Counts (turned team_rules (arrived_of links) empty_state ps firsts) (map (verdict team_rules links) (arrived_of links))
      (size ∙ sym (length-map (arrived_of links) (verdict team_rules links)))
      (λ i h. let x = some_at (arrived_of links) i (omega (arith, h, size)) in one i x.0 x.1)
    where
      firsts : List Verdict
      firsts = map (first_verdict links) (arrived_of links)

      many : length firsts ≡ length (arrived_of links)
      many = length-map (arrived_of links) (first_verdict links)

      size : length (turned team_rules (arrived_of links) empty_state ps firsts) ≡ length (arrived_of links)
      size = length-turned team_rules (arrived_of links) empty_state ps firsts ∙ many

      one : (i : ℕ) (x : Link) → slice_get (arrived_of links) i ≡ Some x
          → get_or (turned team_rules (arrived_of links) empty_state ps firsts) i Counts ≡ get_or (map (verdict team_rules links) (arrived_of links)) i Counts
      one i x at =
          turned_at team_rules (arrived_of links) (ordered links set_of).set i x at Counts empty_state ps firsts (sym many)
          ∙ ap (λ l. turn_in team_rules empty_state l x (get_or firsts i Counts)) is
          ∙ ap (λ v. turn_in team_rules empty_state (resolved team_rules links) x v) (map_at (first_verdict links) (arrived_of links) i x Counts at)
          ∙ turn_is x (at_order links set_of i x at)
          ∙ sym (map_at (verdict team_rules links) (arrived_of links) i x Counts at)
