-- What becomes of links before their turn, by position.
use Rattle.std.proofs.Common.{◌≡◌, ◌⊎◌, ℕ, zero, suc, ◌<◌, Bool, true, false, ◌&&◌, ◌==◌, cond, List, [], ◌∷◌, Option, Some, None, is_none, filter, map, find, option_map, get_or, slice_get, length, refl, sym, ◌∙◌, ap, subst, inl, inr, arith}
use Rattle.std.specs.Option.{option_map_or}
use Rattle.std.proofs.lemmas.Bool.{false≢true, and_parts}
use Rattle.std.proofs.lemmas.Bool.Decides.{nat_tests}
use Rattle.team_sets.specs.Names.{has_name}
use Rattle.team_sets.specs.Members.{IsIn}
use Rattle.team_sets.specs.Order.{names}
use Rattle.team_sets.specs.OrderLaws.{IsSet}
use Rattle.team_sets.specs.Settlement.{Decided, conflicts, decided_by, standing, stands, struck, lost}
use Rattle.team_sets.proofs.Decisions.{find_of, standing-members}
use Rattle.team_sets.proofs.OrderLeast.{in_filter, of_filter}
use Rattle.settlement.specs.declared.striker.Decision.{Decision}
use Rattle.settlement.specs.declared.striker.Striker.{Striker}
use Rattle.team_model.specs.Strikes.{is_striking}
use Rattle.team_model.specs.Judging.{decision_in, first_striker, is_senior, lawful, name_of, order_of, standing_strikers, strikers, strikes_in, team_rules, unlawful_reason}
use Rattle.team_model.specs.declared.terms.Link.{Link}
use Rattle.team_model.specs.declared.terms.Reason.{Reason}
use Rattle.team_model.specs.declared.terms.Verdict.TheVariants.{Counts, Struck, Outranked}
use Rattle.link_graph.specs.Held.{arrived_of}
use Rattle.link_graph.proofs.Names.{get_within}
use Rattle.replica.specs.Resolving.{IsDecidedWithin, decided_first, first_lawful, verdict_by}
use Rattle.replica.specs.Settling.{IsSettled, by_position, decided_at, first_standing, position_of, striker_of}
use Rattle.replica.specs.Striking.{link_strikes}
use Rattle.replica.specs.Views.{judgements}
use Rattle.replica.specs.declared.settling.Settled.{Settled}
use Rattle.link_graph.proofs.Arrived.{at_order, ordered}
use Rattle.replica.proofs.Mapped.{find_mapped}
use Rattle.replica.proofs.Places.{link_there, position_is}
use Rattle.replica.proofs.Verdicts.{is_stood, unstruck_none}

-- what passes is found in a part that has all that passes
find_part : {A : Type 0} (p q : A → Bool) (xs : List A) → ((x : A) → IsIn x xs → p x ≡ true → q x ≡ true) → find p (filter q xs) ≡ find p xs
find_part p q [] h = refl
find_part p q (x ∷ xs) h = go (q x) refl (p x) refl (find_part p q xs (λ y k. h y (inr k)))
  where
    go : (b : Bool) → q x ≡ b → (c : Bool) → p x ≡ c → find p (filter q xs) ≡ find p xs → find p (cond b (x ∷ filter q xs) (filter q xs)) ≡ cond c (Some x) (find p xs)
    go true e c f more = rw f (ap (λ o. cond c (Some x) o) more)
    go false e true f more = absurd (false≢true (sym e ∙ h x (inl refl) f))
    go false e false f more = more

numbers_one : (a b : ℕ) → (a == b) ≡ true → a ≡ b
numbers_one a b e = grind (arith, nat_tests)

own_number : (a : ℕ) → (a == a) ≡ true
own_number a = grind (arith, nat_tests)

module _ (links : List Link) (set_of : IsSet name_of links) where
  abbrev law : List Link
  law = lawful team_rules links

  abbrev stood : List Link
  stood = standing_strikers team_rules links law

  abbrev acting : List Link
  acting = strikers links law

  in_arrived : (x : Link) → IsIn x law → IsIn x (arrived_of links)
  in_arrived x k = (ordered links set_of).members.back x (of_filter (λ z. is_none (unlawful_reason team_rules links z)) x (order_of links) k).0

  of_acting : (x : Link) → IsIn x acting → IsIn x law × (is_striking x.entry.act ≡ true)
  of_acting x k = of_filter (λ z. is_striking z.entry.act) x law k

  there : (x : Link) → IsIn x law → slice_get (arrived_of links) (position_of links x.name) ≡ Some x
  there x k = link_there links set_of x (in_arrived x k)

  in_acting : (s : Link) → IsIn s stood → IsIn s acting
  in_acting s k = standing-members (is_senior links law) (strikes_in links) acting s k

  -- the link that decides stands
  Decides : Decided Link → Type 0
  Decides stands = Unit {0}
  Decides (struck s) = IsIn s law
  Decides (lost s) = IsIn s law

  decides_of : (x : Link) → Decides (decision_in team_rules links law x)
  unfolding Decides
  decides_of x = go (decided_by (is_senior links law) (strikes_in links) acting x) refl
    where
      either : (s : Link) (b : Bool) → IsIn s law → Decides (cond b (struck s) (lost s))
      either s true k = k
      either s false k = k

      go : (o : Option Link) → decided_by (is_senior links law) (strikes_in links) acting x ≡ o → Decides (decision_in team_rules links law x)
      go None e = rw e tt
      go (Some s) e =
          rw e (either s (strikes_in links s x) (of_acting s (in_acting s (find_of (λ z. conflicts (is_senior links law) (strikes_in links) z x) (standing (is_senior links law) (strikes_in links) acting) s e).0)).0)

  decision_within : (d : Decided Link) → Decides d → IsDecidedWithin (length (arrived_of links)) (by_position links d)
  unfolding Decides
  decision_within stands k = tt
  decision_within (struck s) k = get_within (arrived_of links) (position_of links s.name) s (there s k)
  decision_within (lost s) k = get_within (arrived_of links) (position_of links s.name) s (there s k)

  verdict_of : (d : Decided Link) → Decides d → verdict_by links (by_position links d) ≡ decided_first d
  unfolding Decides
  verdict_of stands k = refl
  verdict_of (struck s) k = ap (λ o. option_map_or (λ (z : Link). Struck z.name) o Counts) (there s k)
  verdict_of (lost s) k = ap (λ o. option_map_or (λ (z : Link). Outranked z.name) o Counts) (there s k)

  module _ (settled : Settled) (is : IsSettled links law settled) (p : ℕ) (x : Link) (at : slice_get (arrived_of links) p ≡ Some x) (k : IsIn x law) where
    -- a striker's decision
    module _ (strikes : is_striking x.entry.act ≡ true) where
      found_decision : decided_at p settled.acts.items settled.decisions.items ≡ by_position links (decision_in team_rules links law x)
      found_decision =
          (λ i. decided_at p (is.acts i) (is.decisions i)) ∙ each acting (λ y j. (of_acting y j).0) (in_filter (λ z. is_striking z.entry.act) x law k strikes)
        where
          each : (ys : List Link) → ((y : Link) → IsIn y ys → IsIn y law) → IsIn x ys
              → decided_at p (map (striker_of links law) ys) (map (λ y. by_position links (decision_in team_rules links law y)) ys) ≡ by_position links (decision_in team_rules links law x)
          each [] of j = absurd j
          each (y ∷ ys) of j = go (position_of links y.name == p) refl j (λ i. each ys (λ z h. of z (inr h)) i)
            where
              rest : Decision
              rest = decided_at p (map (striker_of links law) ys) (map (λ z. by_position links (decision_in team_rules links law z)) ys)

              go : (b : Bool) → (position_of links y.name == p) ≡ b → (y ≡ x) ⊎ IsIn x ys → (IsIn x ys → rest ≡ by_position links (decision_in team_rules links law x))
                  → cond b (by_position links (decision_in team_rules links law y)) rest ≡ by_position links (decision_in team_rules links law x)
              go true e i more =
                  let one : ◌≡◌ {A = Option Link} (Some y) (Some x) = sym (there y (of y (inl refl))) ∙ ap (λ n. slice_get (arrived_of links) n) (numbers_one (position_of links y.name) p e) ∙ at in
                  let same : y ≡ x = cc in
                  ap (λ z. by_position links (decision_in team_rules links law z)) same
              go false e (inl same) more =
                  absurd (false≢true (sym e ∙ ap (λ (z : Link). position_of links z.name == p) same ∙ ap (λ n. n == p) (position_is links set_of p x at) ∙ own_number p))
              go false e (inr i) more = more i

      pub decision_given : IsDecidedWithin (length (arrived_of links)) (decided_at p settled.acts.items settled.decisions.items)
      decision_given = rw found_decision (decision_within (decision_in team_rules links law x) (decides_of x))

      pub striker_falls : verdict_by links (decided_at p settled.acts.items settled.decisions.items) ≡ first_lawful links x
      striker_falls =
          ap (verdict_by links) found_decision ∙ verdict_of (decision_in team_rules links law x) (decides_of x)
          ∙ sym (ap (λ b. cond b (decided_first (decision_in team_rules links law x)) (option_map_or (λ (s : Link). Struck s.name) (first_striker team_rules links law x) Counts)) strikes)

    -- another link
    module _ (strikes_not : is_striking x.entry.act ≡ false) where
      other_is : first_lawful links x ≡ option_map_or (λ (s : Link). Struck s.name) (first_striker team_rules links law x) Counts
      other_is = ap (λ b. cond b (decided_first (decision_in team_rules links law x)) (option_map_or (λ (s : Link). Struck s.name) (first_striker team_rules links law x) Counts)) strikes_not

      -- that no standing striker strikes
      pub unstruck_stays : get_or settled.struck.items p false ≡ false → Counts ≡ first_lawful links x
      unstruck_stays e =
          sym (other_is ∙ ap (λ o. option_map_or (λ (s : Link). Struck s.name) o Counts) (unstruck_none links set_of x (sym (is.struck p x at k) ∙ e)))

      found_striker : first_standing links settled.standing.items settled.acts.items p ≡ option_map (λ s. position_of links s.name) (first_striker team_rules links law x)
      found_striker =
          ap (λ l. first_standing links settled.standing.items l p) is.acts
          ∙ ap (λ o. option_map (λ (a : Striker). a.id) o)
          (find_mapped (striker_of links law) (λ s. has_name (names name_of stood) s.name && strikes_in links s x) (λ a. get_or settled.standing.items a.id false && link_strikes links a.id p) acting same)
          ∙ twice (find (λ s. has_name (names name_of stood) s.name && strikes_in links s x) acting)
          ∙ ap (λ o. option_map (λ (s : Link). position_of links s.name) o)
          (find_part (λ s. has_name (names name_of stood) s.name && strikes_in links s x) (λ z. is_striking z.entry.act) law
          (λ s j h. (of_acting s (in_acting s (is_stood links set_of s j (and_parts (has_name (names name_of stood) s.name) (strikes_in links s x) h).0))).1))
        where
          same : (s : Link) → IsIn s acting → (get_or settled.standing.items (position_of links s.name) false && link_strikes links (position_of links s.name) p) ≡ (has_name (names name_of stood) s.name && strikes_in links s x)
          same s j =
              let here = there s (of_acting s j).0 in
              ap (λ b. b && link_strikes links (position_of links s.name) p) (is.standing (position_of links s.name) s here)
              ∙ ap (λ b. has_name (names name_of stood) s.name && b)
              (ap (λ o. option_map_or (λ v. option_map_or (λ w. strikes_in links v w) (slice_get (arrived_of links) p) false) o false) here ∙ ap (λ o. option_map_or (λ w. strikes_in links s w) o false) at)

          twice : (o : Option Link) → option_map (λ (a : Striker). a.id) (option_map (striker_of links law) o) ≡ option_map (λ (s : Link). position_of links s.name) o
          twice None = refl
          twice (Some s) = refl

      -- that the first of them takes out
      pub struck_falls : (q : ℕ) (s : Link) → first_standing links settled.standing.items settled.acts.items p ≡ Some q → slice_get (arrived_of links) q ≡ Some s → Struck s.name ≡ first_lawful links x
      struck_falls q s e there_is = go (first_striker team_rules links law x) refl
        where
          go : (o : Option Link) → first_striker team_rules links law x ≡ o → Struck s.name ≡ first_lawful links x
          go None f = absurd (let bad : ◌≡◌ {A = Option ℕ} (Some q) None = sym e ∙ found_striker ∙ ap (λ o. option_map (λ (z : Link). position_of links z.name) o) f in cc)
          go (Some t) f =
              let found : ◌≡◌ {A = Option ℕ} (Some q) (Some (position_of links t.name)) = sym e ∙ found_striker ∙ ap (λ o. option_map (λ (z : Link). position_of links z.name) o) f in
              let place : q ≡ position_of links t.name = cc in
              let in_t : IsIn t law = (find_of (λ z. has_name (names name_of stood) z.name && strikes_in links z x) law t f).0 in
              let one : ◌≡◌ {A = Option Link} (Some s) (Some t) = sym there_is ∙ ap (λ n. slice_get (arrived_of links) n) place ∙ there t in_t in
              let same : s ≡ t = cc in
              ap (λ (z : Link). Struck z.name) same ∙ sym (other_is ∙ ap (λ o. option_map_or (λ (z : Link). Struck z.name) o Counts) f)

      pub striker_given : (q : ℕ) → first_standing links settled.standing.items settled.acts.items p ≡ Some q → q < length (arrived_of links)
      striker_given q e = go (first_striker team_rules links law x) refl
        where
          go : (o : Option Link) → first_striker team_rules links law x ≡ o → q < length (arrived_of links)
          go None f = absurd (let bad : ◌≡◌ {A = Option ℕ} (Some q) None = sym e ∙ found_striker ∙ ap (λ o. option_map (λ (z : Link). position_of links z.name) o) f in cc)
          go (Some t) f =
              let found : ◌≡◌ {A = Option ℕ} (Some q) (Some (position_of links t.name)) = sym e ∙ found_striker ∙ ap (λ o. option_map (λ (z : Link). position_of links z.name) o) f in
              let place : q ≡ position_of links t.name = cc in
              let in_t : IsIn t law = (find_of (λ z. has_name (names name_of stood) z.name && strikes_in links z x) law t f).0 in
              subst (λ n. n < length (arrived_of links)) (sym place) (get_within (arrived_of links) (position_of links t.name) t (there t in_t))

      -- that none of them strikes after all
      pub none_strikes : first_standing links settled.standing.items settled.acts.items p ≡ None → Counts ≡ first_lawful links x
      none_strikes e = go (first_striker team_rules links law x) refl
        where
          go : (o : Option Link) → first_striker team_rules links law x ≡ o → Counts ≡ first_lawful links x
          go None f = sym (other_is ∙ ap (λ o. option_map_or (λ (z : Link). Struck z.name) o Counts) f)
          go (Some t) f =
              absurd (let bad : ◌≡◌ {A = Option ℕ} None (Some (position_of links t.name)) = sym e ∙ found_striker ∙ ap (λ o. option_map (λ (z : Link). position_of links z.name) o) f in cc)

  -- the judgement of a position is that of its link
  pub judged_at : (p : ℕ) (x : Link) (o d : Option Reason) (reasons : List (Option Reason)) → reasons ≡ judgements links → slice_get (arrived_of links) p ≡ Some x → o ≡ get_or reasons p d → o ≡ unlawful_reason team_rules links x
  judged_at p x o d reasons is at read = read ∙ ap (λ l. get_or l p d) is ∙ each (arrived_of links) p at
    where
      each : (xs : List Link) (i : ℕ) → slice_get xs i ≡ Some x → get_or (map (unlawful_reason team_rules links) xs) i d ≡ unlawful_reason team_rules links x
      each [] i e = absurd (let bad : ◌≡◌ {A = Option Link} None (Some x) = e in cc)
      each (y ∷ ys) zero e = let same : y ≡ x = cc in ap (unlawful_reason team_rules links) same
      each (y ∷ ys) (suc i) e = each ys i e

  pub lawful_here : (p : ℕ) (x : Link) → slice_get (arrived_of links) p ≡ Some x → None ≡ unlawful_reason team_rules links x → IsIn x law
  lawful_here p x at e = in_filter (λ z. is_none (unlawful_reason team_rules links z)) x (order_of links) (at_order links set_of p x at) (ap is_none (sym e))
