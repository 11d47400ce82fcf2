-- What holds of each link that counts.
use Rattle.std.proofs.Common.{◌≡◌, ◌↔◌, Bool, true, false, not, ◌&&◌, ◌||◌, cond, List, [], ◌∷◌, map, Option, Some, None, is_none, refl, sym, ◌∙◌, ap, subst, inl, inr}
use Rattle.std.specs.List.{list_any}
use Rattle.std.specs.Option.{option_map_or}
use Rattle.std.specs.Cmp.Lexicographic.{nat_list_eq_equiv}
use Rattle.std.proofs.lemmas.Bool.{false≢true, and_from, and_parts, not-true, or_parts}
use Rattle.team_sets.specs.Names.{has_name}
use Rattle.team_sets.specs.Members.{IsIn}
use Rattle.team_sets.specs.OrderLaws.{NamesDiffer}
use Rattle.team_sets.specs.Settlement.{Decided, stands, struck, lost}
use Rattle.team_sets.specs.SettlementLaws.{StandsAsDecided}
use Rattle.team_sets.proofs.Ancestors.{in_links}
use Rattle.team_sets.proofs.Decisions.{find_none, find_of, stands_as_decided}
use Rattle.team_sets.proofs.OrderLeast.{in_filter, of_filter}
use Rattle.team_sets.proofs.Parts.{name_in}
use Rattle.team_sets.proofs.Pasts.{one_named}
use Rattle.team_sets.proofs.Agree.{any_in}
use Rattle.team_model.specs.Strikes.{is_striking}
use Rattle.team_model.specs.Counting.{is_counting}
use Rattle.team_model.specs.CountingLaws.{CountsRightly}
use Rattle.team_model.specs.Judging.{Rules, name_of, prev_of, order_of, is_senior, strikers, standing_strikers, stays, strikes_among, fold_team, lawful, unlawful_reason, before_turn, at_turn, lawful_verdict, striker_verdict, decision_in, first_striker, verdict}
use Rattle.team_model.specs.declared.terms.Link.{Link}
use Rattle.team_model.specs.declared.terms.Reason.{Reason}
use Rattle.team_model.specs.declared.terms.Verdict.{Verdict}
use Rattle.team_model.specs.declared.terms.Verdict.TheVariants.{Counts, Unlawful, Struck, Outranked, Refused, Waiting}

is_false : (b : Bool) → (b ≡ true → ⊥) → b ≡ false
is_false true h = absurd (h refl)
is_false false h = refl

none_any : (p : Link → Bool) (xs : List Link) → ((x : Link) → IsIn x xs → p x ≡ false) → list_any p xs ≡ false
none_any p [] h = refl
none_any p (x ∷ xs) h = rw (h x (inl refl)) (none_any p xs (λ y k. h y (inr k)))

reason_counts : (o : Option Reason) → is_counting (option_map_or (λ r. Refused r) o Counts) ≡ is_none o
reason_counts None = refl
reason_counts (Some r) = refl

none_is : (o : Option Reason) → is_none o ≡ true → o ≡ None
none_is None h = refl
none_is (Some r) h = absurd (false≢true h)

counts_is : (v : Verdict) → is_counting v ≡ true → v ≡ Counts
counts_is Counts h = refl
counts_is (Unlawful r) h = absurd (false≢true h)
counts_is (Struck s) h = absurd (false≢true h)
counts_is (Outranked s) h = absurd (false≢true h)
counts_is (Refused r) h = absurd (false≢true h)
counts_is Waiting h = absurd (false≢true h)

module _ (rules : Rules) (links : List Link) (differ : NamesDiffer name_of links) where
  abbrev law : List Link
  law = lawful rules links

  abbrev stood : List Link
  stood = standing_strikers rules links law

  abbrev strike : Link → Link → Bool
  strike x y = strikes_among rules.device_of links x y

  abbrev is_lawful : Link → Bool
  is_lawful x = is_none (unlawful_reason rules links x)

  abbrev is_permitted : Link → Bool
  is_permitted x = is_none (rules.refusal (fold_team rules (before_turn rules links x)) x.entry)

  decides : StandsAsDecided (is_senior links law) strike (strikers links law)
  decides = stands_as_decided (is_senior links law) strike (strikers links law)

  -- no link strikes itself
  not_own : (x : Link) → (strike x x || strike x x) ≡ false
  not_own x = rw (nat_list_eq_equiv.refl x.name) refl

  of_law : (x : Link) → IsIn x law → IsIn x links
  of_law x k = in_links name_of prev_of links differ x (of_filter is_lawful x (order_of links) k).0

  of_stood : (s : Link) → IsIn s stood → IsIn s law
  of_stood s k = (of_filter (λ x. is_striking x.entry.act) s law (decides.members s k)).0

  -- a lawful link with the name of one that stands is that one
  is_stood : (x : Link) → IsIn x law → has_name (map name_of stood) x.name ≡ true → IsIn x stood
  is_stood x k h =
      let y = one_named name_of stood x.name h in
      subst (λ z. IsIn z stood) (differ y.0 x (of_law y.0 (of_stood y.0 y.1)) (of_law x k) y.2) y.1

  has_stood : (x : Link) → IsIn x stood → has_name (map name_of stood) x.name ≡ true
  has_stood x k = name_in name_of prev_of stood x k x.name refl

  -- a striker that isn't decided to stand doesn't
  fallen : (x : Link) → IsIn x law → is_striking x.entry.act ≡ true → (d : Decided Link) → decision_in rules links law x ≡ d → (d ≡ stands → ⊥) → has_name (map name_of stood) x.name ≡ false
  fallen x k striking d e other =
      is_false (has_name (map name_of stood) x.name)
      (λ h. other (sym e ∙ (decides.decided (λ y j. not_own y) x (in_filter (λ x. is_striking x.entry.act) x law k striking)).1 (is_stood x k h)))

  -- what is made of a decision, where the link strikes
  by_decision : (x : Link) → IsIn x law → is_striking x.entry.act ≡ true → (d : Decided Link) → decision_in rules links law x ≡ d
      → is_counting (striker_verdict rules links x d) ≡ ((has_name (map name_of stood) x.name && not (list_any (λ s. strike s x) stood)) && is_permitted x)
  by_decision x k striking stands e =
      let here : IsIn x stood = decides.stays x (in_filter (λ x. is_striking x.entry.act) x law k striking) e in
      let free : list_any (λ s. strike s x) stood ≡ false = none_any (λ s. strike s x) stood (λ s j. (or_parts (strike s x) (strike x s) (decides.unmet x s e j)).0) in
      rw (has_stood x here, free) (reason_counts (rules.refusal (fold_team rules (before_turn rules links x)) x.entry))
  by_decision x k striking (struck s) e = rw (fallen x k striking (struck s) e (λ h. cc)) refl
  by_decision x k striking (lost s) e = rw (fallen x k striking (lost s) e (λ h. cc)) refl

  -- what is made of the first striker, where the link doesn't strike
  by_striker : (x : Link) → (o : Option Link) → first_striker rules links law x ≡ o
      → is_counting (option_map_or (λ (s : Link). Struck s.name) o (at_turn rules links x)) ≡ (not (list_any (λ s. strike s x) stood) && is_permitted x)
  by_striker x None e =
      let free : list_any (λ s. strike s x) stood ≡ false = none_any (λ s. strike s x) stood each in
      rw free (reason_counts (rules.refusal (fold_team rules (before_turn rules links x)) x.entry))
    where
      each : (s : Link) → IsIn s stood → strike s x ≡ false
      each s j = is_false (strike s x) (λ h. false≢true (sym (find_none (λ s. has_name (map name_of stood) s.name && strike s x) law e s (of_stood s j))
          ∙ and_from (has_name (map name_of stood) s.name) (strike s x) (has_stood s j) h))
  by_striker x (Some s) e =
      let found = find_of (λ s. has_name (map name_of stood) s.name && strike s x) law s e in
      let parts = and_parts (has_name (map name_of stood) s.name) (strike s x) found.1 in
      rw (any_in (λ s. strike s x) stood s (is_stood s found.0 parts.0) parts.1) refl

  lawful_counts : (x : Link) → IsIn x law → (b : Bool) → is_striking x.entry.act ≡ b
      → is_counting (cond b (striker_verdict rules links x (decision_in rules links law x)) (option_map_or (λ (s : Link). Struck s.name) (first_striker rules links law x) (at_turn rules links x)))
      ≡ (((not b || has_name (map name_of stood) x.name) && not (list_any (λ s. strike s x) stood)) && is_permitted x)
  lawful_counts x k true e = by_decision x k e (decision_in rules links law x) refl
  lawful_counts x k false e = by_striker x (first_striker rules links law x) refl

  by_reason : (x : Link) → IsIn x (order_of links) → (o : Option Reason) → unlawful_reason rules links x ≡ o
      → is_counting (option_map_or (λ r. Unlawful r) o (lawful_verdict rules links x)) ≡ (is_none o && (stays rules links law stood x && is_permitted x))
  by_reason x k None e = lawful_counts x (in_filter is_lawful x (order_of links) k (ap is_none e)) (is_striking x.entry.act) refl
  by_reason x k (Some r) e = refl

  -- a connected link counts where it is lawful, stays and is permitted at its turn
  counts : (x : Link) → IsIn x (order_of links) → is_counting (verdict rules links x) ≡ (is_lawful x && (stays rules links law stood x && is_permitted x))
  counts x k =
      ap (λ b. is_counting (cond b (option_map_or (λ r. Unlawful r) (unlawful_reason rules links x) (lawful_verdict rules links x)) Waiting))
      (name_in name_of prev_of (order_of links) x k x.name refl)
      ∙ by_reason x k (unlawful_reason rules links x) refl

  -- no standing striker strikes another
  pub standers_apart : (s t : Link) → IsIn s stood → IsIn t stood → strike s t ≡ false
  standers_apart s t k j =
      (or_parts (strike s t) (strike t s) (decides.unmet t s ((decides.decided (λ y i. not_own y) t (decides.members t j)).1 j) k)).0

  -- a link that counts is connected
  is_connected : (x : Link) → IsIn x links → verdict rules links x ≡ Counts → IsIn x (order_of links)
  is_connected x k h = go (has_name (map name_of (order_of links)) x.name) refl
    where
      go : (b : Bool) → has_name (map name_of (order_of links)) x.name ≡ b → IsIn x (order_of links)
      go true e =
          let y = one_named name_of (order_of links) x.name e in
          subst (λ z. IsIn z (order_of links)) (differ y.0 x (in_links name_of prev_of links differ y.0 y.1) k y.2) y.1
      go false e = absurd (let bad : ◌≡◌ {A = Verdict} Waiting Counts = rw e at h in cc)

  rightly : (x : Link) → IsIn x (order_of links) → verdict rules links x ≡ Counts → CountsRightly rules links x
  rightly x here h =
      let parts = and_parts (is_lawful x) (stays rules links law stood x && is_permitted x) (sym (counts x here) ∙ ap is_counting h) in
      let rest = and_parts (stays rules links law stood x) (is_permitted x) parts.1 in
      let stay = and_parts (not (is_striking x.entry.act) || has_name (map name_of stood) x.name) (not (list_any (λ s. strike s x) stood)) rest.0 in
      let in_law : IsIn x law = in_filter is_lawful x (order_of links) here parts.0 in record {
        connected = here;
        permitted_before = none_is (unlawful_reason rules links x) parts.0;
        unstruck = λ s k. is_false (strike s x) (λ e. false≢true (sym (not-true (list_any (λ s. strike s x) stood) stay.1) ∙ any_in (λ s. strike s x) stood s k e));
        stands = λ striking. is_stood x in_law (stood_if (is_striking x.entry.act) striking (has_name (map name_of stood) x.name) stay.0);
        in_turn = in_filter (stays rules links law stood) x law in_law rest.0;
        permitted = none_is (rules.refusal (fold_team rules (before_turn rules links x)) x.entry) rest.1;
      }
    where
      stood_if : (b : Bool) → b ≡ true → (c : Bool) → (not b || c) ≡ true → c ≡ true
      stood_if true e c h = h
      stood_if false e c h = absurd (false≢true e)

  pub counting_right : (x : Link) → IsIn x links → (verdict rules links x ≡ Counts) ↔ CountsRightly rules links x
  counting_right x k = (
    λ h. rightly x (is_connected x k h) h,
    λ r. counts_is (verdict rules links x) (counts x r.connected ∙ and_from (is_lawful x) (stays rules links law stood x && is_permitted x) (ap is_none r.permitted_before)
        (and_from (stays rules links law stood x) (is_permitted x) (of_filter (stays rules links law stood) x law r.in_turn).1 (ap is_none r.permitted))),
  )
