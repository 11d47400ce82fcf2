-- What struck links are struck by, what outranks a removal, what is resolved, and what an unlawful link is worth.
use Rattle.std.proofs.Common.{◌≡◌, ◌≢◌, ◌↔◌, Bool, true, false, not, ◌&&◌, ◌||◌, cond, List, [], ◌∷◌, Option, Some, None, filter, map, is_none, unwrap_or, refl, sym, ◌∙◌, ap, subst, inl, inr, ◌⊎◌}
use Rattle.std.specs.List.{list_any}
use Rattle.std.specs.Option.{option_map_or}
use Rattle.std.specs.Cmp.Lexicographic.{nat_list_eq_equiv}
use Rattle.std.proofs.lemmas.Bool.{false≢true, and_from, and_parts, not-true, or_cases, or_parts}
use Rattle.team_sets.specs.Names.{Name, same_name, has_name}
use Rattle.team_sets.specs.Members.{IsIn}
use Rattle.team_sets.specs.Ancestry.{are_concurrent, is_before}
use Rattle.team_sets.specs.OrderLaws.{NamesDiffer}
use Rattle.team_sets.specs.Places.{least_place, lesser_place, place_lt}
use Rattle.team_sets.specs.Settlement.{Decided, conflicts, decided_by, stands, struck, lost}
use Rattle.team_sets.specs.SettlementLaws.{StandsAsDecided}
use Rattle.team_sets.proofs.Ancestors.{in_links}
use Rattle.team_sets.proofs.Decisions.{find_of, stands_as_decided}
use Rattle.team_sets.proofs.OrderLeast.{in_filter, of_filter}
use Rattle.team_sets.proofs.Parts.{name_in}
use Rattle.team_sets.proofs.Pasts.{any_of, one_named, same_name-is}
use Rattle.team_sets.proofs.Agree.{any_in}
use Rattle.team_model.specs.Strikes.{brings_user, is_striking, strikes_by}
use Rattle.team_model.specs.CountingLaws.{GivesSeniority}
use Rattle.team_model.specs.Judging.{Rules, name_of, prev_of, order_of, past_of, place_of, is_senior, seniority, strikers, standing_strikers, stays, strikes_among, lawful, resolved, unlawful_reason, at_turn, fold_team, before_turn, lawful_verdict, striker_verdict, decision_in, first_striker, verdict}
use Rattle.team_model.specs.declared.terms.Link.{Link}
use Rattle.team_model.specs.declared.terms.Reason.{Reason}
use Rattle.team_model.specs.declared.terms.Verdict.{Verdict}
use Rattle.team_model.specs.declared.terms.Verdict.TheVariants.{Counts, Unlawful, Struck, Outranked, Refused, Waiting}
use Rattle.strikes.specs.RemovalLaws.{HasNoEffect, IsOutrankedBy, IsStruckBy, IsTakenOutBy}
use Rattle.strikes.proofs.Deciders.{decider-senior, lost-to, struck-by}
use Rattle.strikes.proofs.RemovalRanks.{removals-apart, strict}

module _ (rules : Rules) (links : List Link) where
  abbrev law : List Link
  law = lawful rules links

  abbrev stood : List Link
  stood = standing_strikers rules links law

  abbrev strike : Link → Link → Bool
  strike x y = strikes_among rules.device_of links x y

  abbrev is_lawful : Link → Bool
  is_lawful x = is_none (unlawful_reason rules links x)

  decides : StandsAsDecided (is_senior links law) strike (strikers links law)
  decides = stands_as_decided (is_senior links law) strike (strikers links law)

  pub of-stood : (s : Link) → IsIn s stood → IsIn s law × (is_striking s.entry.act ≡ true)
  of-stood s k = of_filter (λ x. is_striking x.entry.act) s law (decides.members s k)

  has-stood : (x : Link) → IsIn x stood → has_name (map name_of stood) x.name ≡ true
  has-stood x k = name_in name_of prev_of stood x k x.name refl

  pub struck-is : (x s : Link) → IsIn s stood → strike s x ≡ true → IsStruckBy rules links x s
  struck-is x s k h =
      let parts = and_parts (are_concurrent name_of prev_of links s x) (strikes_by rules.device_of s.entry x.entry) h in
      let of = of-stood s k in record { is_lawful = of.0; removes = of.1; stands = k; beside = parts.0; strikes = parts.1 }

  is-struck : (x s : Link) → IsStruckBy rules links x s → strike s x ≡ true
  is-struck x s is = and_from (are_concurrent name_of prev_of links s x) (strikes_by rules.device_of s.entry x.entry) is.beside is.strikes

  not-own : (x : Link) → strike x x ≡ true → ⊥
  not-own x h =
      let beside = (and_parts (are_concurrent name_of prev_of links x x) (strikes_by rules.device_of x.entry x.entry) h).0 in
      let other = (and_parts (not (same_name x.name x.name)) (not (is_before name_of prev_of links x.name x))
      (and_parts (not (same_name x.name x.name) && not (is_before name_of prev_of links x.name x)) (not (is_before name_of prev_of links x.name x)) beside).0).0 in
      false≢true (sym (not-true (same_name x.name x.name) other) ∙ nat_list_eq_equiv.refl x.name)

  module _ (differ : NamesDiffer name_of links) where
    of-law : (x : Link) → IsIn x law → IsIn x links
    of-law x k = in_links name_of prev_of links differ x (of_filter is_lawful x (order_of links) k).0

    is-stood : (x : Link) → IsIn x law → has_name (map name_of stood) x.name ≡ true → IsIn x stood
    is-stood x k h =
        let y = one_named name_of stood x.name h in
        subst (λ z. IsIn z stood) (differ y.0 x (of-law y.0 (of-stood y.0 y.1).0) (of-law x k) y.2) y.1

    -- a verdict that says neither that a link waits nor that it is unlawful is that of a lawful link
    of-lawful : (x : Link) (v : Verdict) → IsIn x links → (Waiting ≡ v → ⊥) → ((r : Reason) → Unlawful r ≡ v → ⊥) → verdict rules links x ≡ v
        → IsIn x law × (lawful_verdict rules links x ≡ v)
    of-lawful x v k not_waiting not_unlawful e = go (has_name (map name_of (order_of links)) x.name) refl (unlawful_reason rules links x) refl e
      where
        connected : has_name (map name_of (order_of links)) x.name ≡ true → IsIn x (order_of links)
        connected h =
            let y = one_named name_of (order_of links) x.name h in
            subst (λ z. IsIn z (order_of links)) (differ y.0 x (in_links name_of prev_of links differ y.0 y.1) k y.2) y.1

        go : (b : Bool) → has_name (map name_of (order_of links)) x.name ≡ b → (o : Option Reason) → unlawful_reason rules links x ≡ o
            → cond b (option_map_or (λ r. Unlawful r) o (lawful_verdict rules links x)) Waiting ≡ v → IsIn x law × (lawful_verdict rules links x ≡ v)
        go false h o f e = absurd (not_waiting e)
        go true h None f e = (in_filter is_lawful x (order_of links) (connected h) (ap is_none f), e)
        go true h (Some r) f e = absurd (not_unlawful r e)

    struck-lawful : (x : Link) (n : Name) → IsIn x links → verdict rules links x ≡ Struck n → IsIn x law × (lawful_verdict rules links x ≡ Struck n)
    struck-lawful x n k e =
        of-lawful x (Struck n) k (λ f. let bad : ◌≡◌ {A = Verdict} Waiting (Struck n) = f in cc) (λ r f. let bad : ◌≡◌ {A = Verdict} (Unlawful r) (Struck n) = f in cc) e

    outranked-lawful : (x : Link) (n : Name) → IsIn x links → verdict rules links x ≡ Outranked n → IsIn x law × (lawful_verdict rules links x ≡ Outranked n)
    outranked-lawful x n k e =
        of-lawful x (Outranked n) k (λ f. let bad : ◌≡◌ {A = Verdict} Waiting (Outranked n) = f in cc)
        (λ r f. let bad : ◌≡◌ {A = Verdict} (Unlawful r) (Outranked n) = f in cc) e

    -- at its turn a link counts or is refused
    turn : (n : Name) (o : Option Reason) → option_map_or (λ r. Refused r) o Counts ≡ Struck n → ⊥
    turn n None e = let bad : ◌≡◌ {A = Verdict} Counts (Struck n) = e in cc
    turn n (Some r) e = let bad : ◌≡◌ {A = Verdict} (Refused r) (Struck n) = e in cc

    outranked-turn : (n : Name) (o : Option Reason) → option_map_or (λ r. Refused r) o Counts ≡ Outranked n → ⊥
    outranked-turn n None e = let bad : ◌≡◌ {A = Verdict} Counts (Outranked n) = e in cc
    outranked-turn n (Some r) e = let bad : ◌≡◌ {A = Verdict} (Refused r) (Outranked n) = e in cc

    own-free : (x : Link) → conflicts (is_senior links law) strike x x ≡ false
    own-free x = go (strike x x) refl
      where
        go : (b : Bool) → strike x x ≡ b → conflicts (is_senior links law) strike x x ≡ false
        go true e = absurd (not-own x e)
        go false e = rw e refl

    -- what decides of a removal takes it out
    takes-out : (x s : Link) → IsIn x (strikers links law) → decided_by (is_senior links law) strike (strikers links law) x ≡ Some s → IsTakenOutBy rules links x s
    takes-out x s k f =
        let met = find_of (λ z. conflicts (is_senior links law) strike z x) stood s f in record {
          stands = met.0;
          outranks = decider-senior (is_senior links law) strike (strict links law) (strikers links law) (removals-apart rules links differ) x s k (own-free x) f;
          meets = met.1;
        }

    Found : Link → Name → Type 0
    Found x n = (s : Link) × (s.name ≡ n) × IsStruckBy rules links x s × (is_striking x.entry.act ≡ true → is_senior links law s x ≡ true)

    by-decision : (x : Link) (n : Name) → IsIn x (strikers links law) → (d : Decided Link) → decision_in rules links law x ≡ d → striker_verdict rules links x d ≡ Struck n → Found x n
    unfolding Found
    by-decision x n k stands f e = absurd (turn n (rules.refusal (fold_team rules (before_turn rules links x)) x.entry) e)
    by-decision x n k (struck s) f e =
        let by = struck-by (is_senior links law) strike (strikers links law) x s f in
        let out = takes-out x s k by.0 in
        let bad : ◌≡◌ {A = Verdict} (Struck s.name) (Struck n) = e in
        let same : s.name ≡ n = cc in (s, same, struck-is x s out.stands by.1, λ h. out.outranks)
    by-decision x n k (lost s) f e = absurd (let bad : ◌≡◌ {A = Verdict} (Outranked s.name) (Struck n) = e in cc)

    by-striker : (x : Link) (n : Name) → is_striking x.entry.act ≡ false → (o : Option Link) → first_striker rules links law x ≡ o
        → option_map_or (λ (s : Link). Struck s.name) o (at_turn rules links x) ≡ Struck n → Found x n
    unfolding Found
    by-striker x n plain None f e = absurd (turn n (rules.refusal (fold_team rules (before_turn rules links x)) x.entry) e)
    by-striker x n plain (Some s) f e =
        let found = find_of (λ s. has_name (map name_of stood) s.name && strike s x) law s f in
        let parts = and_parts (has_name (map name_of stood) s.name) (strike s x) found.1 in
        let bad : ◌≡◌ {A = Verdict} (Struck s.name) (Struck n) = e in
        let same : s.name ≡ n = cc in (s, same, struck-is x s (is-stood s found.0 parts.0) parts.1, λ h. absurd (false≢true (sym plain ∙ h)))

    by-kind : (x : Link) (n : Name) → IsIn x law → (b : Bool) → is_striking x.entry.act ≡ b
        → cond b (striker_verdict rules links x (decision_in rules links law x)) (option_map_or (λ (s : Link). Struck s.name) (first_striker rules links law x) (at_turn rules links x)) ≡ Struck n
        → Found x n
    by-kind x n k true f e = by-decision x n (in_filter (λ y. is_striking y.entry.act) x law k f) (decision_in rules links law x) refl e
    by-kind x n k false f e = by-striker x n f (first_striker rules links law x) refl e

    pub found-striker : (x : Link) → IsIn x links → (n : Name) → verdict rules links x ≡ Struck n
        → IsIn x law × ((s : Link) × (s.name ≡ n) × IsStruckBy rules links x s × (is_striking x.entry.act ≡ true → is_senior links law s x ≡ true))
    unfolding Found
    found-striker x k n e = let is = struck-lawful x n k e in (is.0, by-kind x n is.0 (is_striking x.entry.act) refl is.1)

    Outranker : Link → Name → Type 0
    Outranker x n = (s : Link) × (s.name ≡ n) × IsOutrankedBy rules links x s

    by-rank : (x : Link) (n : Name) → IsIn x (strikers links law) → (d : Decided Link) → decision_in rules links law x ≡ d → striker_verdict rules links x d ≡ Outranked n → Outranker x n
    unfolding Outranker
    by-rank x n k stands f e = absurd (outranked-turn n (rules.refusal (fold_team rules (before_turn rules links x)) x.entry) e)
    by-rank x n k (struck s) f e = absurd (let bad : ◌≡◌ {A = Verdict} (Struck s.name) (Outranked n) = e in cc)
    by-rank x n k (lost s) f e =
        let by = lost-to (is_senior links law) strike (strikers links law) x s f in
        let out = takes-out x s k by.0 in
        let bad : ◌≡◌ {A = Verdict} (Outranked s.name) (Outranked n) = e in
        let same : s.name ≡ n = cc in (s, same, record { is_removal = decides.members s out.stands; taken_out = out; strikes_it = back (or_cases (strike s x) (strike x s) out.meets); strikes_not = by.1 })
      where
        free : strike s x ≡ false
        free = (lost-to (is_senior links law) strike (strikers links law) x s f).1

        back : (strike s x ≡ true) ⊎ (strike x s ≡ true) → strike x s ≡ true
        back (inl h) = absurd (false≢true (sym free ∙ h))
        back (inr h) = h

    none-outranks : (x : Link) (n : Name) (o : Option Link) → option_map_or (λ (s : Link). Struck s.name) o (at_turn rules links x) ≡ Outranked n → ⊥
    none-outranks x n None e = outranked-turn n (rules.refusal (fold_team rules (before_turn rules links x)) x.entry) e
    none-outranks x n (Some s) e = let bad : ◌≡◌ {A = Verdict} (Struck s.name) (Outranked n) = e in cc

    pub found-outranker : (x : Link) → IsIn x links → (n : Name) → verdict rules links x ≡ Outranked n
        → IsIn x (strikers links law) × ((s : Link) × (s.name ≡ n) × IsOutrankedBy rules links x s)
    unfolding Outranker
    found-outranker x k n e = let is = outranked-lawful x n k e in go is.0 (is_striking x.entry.act) refl is.1
      where
        go : IsIn x law → (b : Bool) → is_striking x.entry.act ≡ b
            → cond b (striker_verdict rules links x (decision_in rules links law x)) (option_map_or (λ (s : Link). Struck s.name) (first_striker rules links law x) (at_turn rules links x)) ≡ Outranked n
            → IsIn x (strikers links law) × ((s : Link) × (s.name ≡ n) × IsOutrankedBy rules links x s)
        go j true f e = let of = in_filter (λ y. is_striking y.entry.act) x law j f in (of, by-rank x n of (decision_in rules links law x) refl e)
        go j false f e = absurd (none-outranks x n (first_striker rules links law x) e)

    pub seen-kept : (x s : Link) → IsIn x links → IsIn s links → verdict rules links x ≡ Struck s.name → (IsIn x (past_of links s) → ⊥) × (IsIn s (past_of links x) → ⊥)
    seen-kept x s k j e = (
      λ h. false≢true (sym (not-true (is_before name_of prev_of links x.name s) parts.1) ∙ (of_filter (λ y. is_before name_of prev_of links y.name s) x links h).1),
      λ h. false≢true (sym (not-true (is_before name_of prev_of links s.name x) (and_parts (not (same_name s.name x.name)) (not (is_before name_of prev_of links s.name x)) parts.0).1) ∙ (of_filter (λ y. is_before name_of prev_of links y.name x) s links h).1),
    )
      where
        struck_by : IsStruckBy rules links x s
        struck_by =
            let found = (found-striker x k s.name e).1 in
            subst (λ z. IsStruckBy rules links x z) (differ found.0 s (of-law found.0 found.2.is_lawful) j found.1) found.2

        parts : ((not (same_name s.name x.name) && not (is_before name_of prev_of links s.name x)) ≡ true) × (not (is_before name_of prev_of links x.name s) ≡ true)
        parts = and_parts (not (same_name s.name x.name) && not (is_before name_of prev_of links s.name x)) (not (is_before name_of prev_of links x.name s)) struck_by.beside

  -- ---- what is resolved

  none-any : (p : Link → Bool) (xs : List Link) → ((x : Link) → IsIn x xs → p x ≡ true → ⊥) → list_any p xs ≡ false
  none-any p xs h = go (list_any p xs) refl
    where
      go : (b : Bool) → list_any p xs ≡ b → list_any p xs ≡ false
      go false e = e
      go true e = let r = any_of p xs e in absurd (h r.0 r.1 r.2)

  stays-parts : (x : Link) → stays rules links law stood x ≡ true → ((not (is_striking x.entry.act) || has_name (map name_of stood) x.name) ≡ true) × (list_any (λ s. strike s x) stood ≡ false)
  stays-parts x h =
      let parts = and_parts (not (is_striking x.entry.act) || has_name (map name_of stood) x.name) (not (list_any (λ s. strike s x) stood)) h in (parts.0, not-true (list_any (λ s. strike s x) stood) parts.1)

  stays-from : (x : Link) → (not (is_striking x.entry.act) || has_name (map name_of stood) x.name) ≡ true → list_any (λ s. strike s x) stood ≡ false → stays rules links law stood x ≡ true
  stays-from x h k = and_from (not (is_striking x.entry.act) || has_name (map name_of stood) x.name) (not (list_any (λ s. strike s x) stood)) h (ap not k)

  pub unless-struck : (x : Link) → IsIn x law → is_striking x.entry.act ≡ false → IsIn x (resolved rules links) ↔ ((s : Link) → IsStruckBy rules links x s → ⊥)
  unless-struck x k plain = (forth, back)
    where
      forth : IsIn x (resolved rules links) → (s : Link) → IsStruckBy rules links x s → ⊥
      forth r s is =
          let free = (stays-parts x (of_filter (stays rules links law stood) x law r).1).1 in
          false≢true (sym free ∙ any_in (λ s. strike s x) stood s is.stands (is-struck x s is))

      back : ((s : Link) → IsStruckBy rules links x s → ⊥) → IsIn x (resolved rules links)
      back h =
          in_filter (stays rules links law stood) x law k
          (stays-from x (ap (λ b. not b || has_name (map name_of stood) x.name) plain) (none-any (λ s. strike s x) stood (λ s j e. h s (struck-is x s j e))))

  pub where-standing : NamesDiffer name_of links → (x : Link) → IsIn x (strikers links law) → IsIn x (resolved rules links) ↔ IsIn x stood
  where-standing differ x k = (forth, back)
    where
      of : IsIn x law × (is_striking x.entry.act ≡ true)
      of = of_filter (λ x. is_striking x.entry.act) x law k

      forth : IsIn x (resolved rules links) → IsIn x stood
      forth r =
          let h = (stays-parts x (of_filter (stays rules links law stood) x law r).1).0 in
          is-stood differ x of.0 (subst (λ b. (not b || has_name (map name_of stood) x.name) ≡ true) of.1 h)

      back : IsIn x stood → IsIn x (resolved rules links)
      back j =
          in_filter (stays rules links law stood) x law of.0
          (stays-from x (ap (λ b. not b || has_name (map name_of stood) x.name) of.1 ∙ has-stood x j) (none-any (λ s. strike s x) stood apart))
        where
          apart : (s : Link) → IsIn s stood → strike s x ≡ true → ⊥
          apart s i h = go (same_name s.name x.name) refl
            where
              go : (b : Bool) → same_name s.name x.name ≡ b → ⊥
              go true e = not-own x (subst (λ z. strike z x ≡ true) (differ s x (of-law differ s (of-stood s i).0) (of-law differ x of.0) (same_name-is s.name x.name e)) h)
              go false e = false≢true (sym (or_parts (strike s x) (strike x s) (decides.apart s x i j (λ same. false≢true (sym e ∙ ap (λ (z : Link). same_name z.name x.name) same ∙ nat_list_eq_equiv.refl x.name)))).0 ∙ h)

  -- nobody of a list brings the user in, or one that does has the least place of those
  least-of : (xs : List Link) (u : Name) → (least_place (map (place_of links) (filter (λ x. brings_user x.entry u) xs)) ≡ None)
      ⊎ ((y : Link) × IsIn y xs × (brings_user y.entry u ≡ true) × (least_place (map (place_of links) (filter (λ x. brings_user x.entry u) xs)) ≡ Some (place_of links y)))
  least-of [] u = inl refl
  least-of (x ∷ xs) u = go (brings_user x.entry u) refl (least-of xs u)
    where
      lesser : (y : Link) → IsIn y xs → brings_user y.entry u ≡ true → brings_user x.entry u ≡ true → (b : Bool)
          → (z : Link) × IsIn z (x ∷ xs) × (brings_user z.entry u ≡ true) × (cond b (Some (place_of links y)) (Some (place_of links x)) ≡ Some (place_of links z))
      lesser y k is own true = (y, inr k, is, refl)
      lesser y k is own false = (x, inl refl, own, refl)

      go : (b : Bool) → brings_user x.entry u ≡ b
          → (least_place (map (place_of links) (filter (λ x. brings_user x.entry u) xs)) ≡ None)
          ⊎ ((y : Link) × IsIn y xs × (brings_user y.entry u ≡ true) × (least_place (map (place_of links) (filter (λ x. brings_user x.entry u) xs)) ≡ Some (place_of links y)))
          → (least_place (map (place_of links) (cond b (x ∷ filter (λ x. brings_user x.entry u) xs) (filter (λ x. brings_user x.entry u) xs))) ≡ None)
          ⊎ ((y : Link) × IsIn y (x ∷ xs) × (brings_user y.entry u ≡ true)
          × (least_place (map (place_of links) (cond b (x ∷ filter (λ x. brings_user x.entry u) xs) (filter (λ x. brings_user x.entry u) xs))) ≡ Some (place_of links y)))
      go false own (inl e) = inl e
      go false own (inr y) = inr (y.0, inr y.1, y.2, y.3)
      go true own (inl e) = inr (x, inl refl, own, ap (λ o. lesser_place (place_of links x) o) e)
      go true own (inr y) =
          let z = lesser y.0 y.1 y.2 own (place_lt (place_of links y.0) (place_of links x)) in
          inr (z.0, z.1, z.2, ap (λ o. lesser_place (place_of links x) o) y.3 ∙ z.3)

  pub no-effect : (x : Link) (r : Reason) → unlawful_reason rules links x ≡ Some r → HasNoEffect rules links x
  no-effect x r e = record {
    strikes_not = λ k. out (of-stood x k).0;
    gives_not = λ u. given u (least-of law u);
    unresolved = λ k. out (of_filter (stays rules links law stood) x law k).0;
  }
    where
      out : IsIn x law → ⊥
      out k = false≢true (ap is_none (sym e) ∙ (of_filter is_lawful x (order_of links) k).1)

      given : (u : Name) → (least_place (map (place_of links) (filter (λ x. brings_user x.entry u) law)) ≡ None)
          ⊎ ((y : Link) × IsIn y law × (brings_user y.entry u ≡ true) × (least_place (map (place_of links) (filter (λ x. brings_user x.entry u) law)) ≡ Some (place_of links y)))
          → (seniority links law u ≡ (0, [])) ⊎ ((y : Link) × (y ≢ x) × GivesSeniority rules links u y)
      given u (inl none) = inl (ap (λ o. unwrap_or o (0, [])) none)
      given u (inr y) = inr (y.0, λ same. out (subst (λ z. IsIn z law) same y.1), record { is_lawful = y.1; brings = y.2; place = ap (λ o. unwrap_or o (0, [])) y.3 })
