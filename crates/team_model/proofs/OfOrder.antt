-- What a set of links means depends on its order alone: waiting links have no effect.
use Rattle.std.proofs.Common.{◌≡◌, ℕ, ◌+◌, zero, suc, Bool, true, false, not, ◌&&◌, ◌||◌, cond, List, [], ◌∷◌, filter, map, is_none, unwrap_or, refl, sym, ◌∙◌, ap, subst, inl, inr, length, arith, take_while}
use Rattle.std.specs.Option.{option_map_or}
use Rattle.team_sets.specs.Names.{Name, same_name, has_name}
use Rattle.team_sets.specs.Members.{IsIn, HaveSameMembers}
use Rattle.team_sets.specs.OrderLaws.{NamesDiffer}
use Rattle.team_sets.specs.Places.{place_lt, least_place}
use Rattle.team_sets.specs.Settlement.{Decided, stands, struck, lost}
use Rattle.team_sets.specs.SettlementLaws.{RankAlike}
use Rattle.team_sets.specs.WaitingLaws.{HaveSameConnected}
use Rattle.team_sets.proofs.Ancestors.{differ-past, in_links}
use Rattle.team_sets.proofs.Lists.{any_alike, filter_alike}
use Rattle.team_sets.proofs.Decisions.{standing-members}
use Rattle.team_sets.proofs.OrderLeast.{of_filter}
use Rattle.team_sets.proofs.OrderSame.{order-same}
use Rattle.team_sets.proofs.Pasts.{one_named}
use Rattle.team_sets.proofs.SameOrder.{differ-order, order-order, same_connected}
use Rattle.team_sets.proofs.SameRanks.{decision-alike, find_alike, standing-alike}
use Rattle.team_model.specs.Counting.{counting_links, is_counting}
use Rattle.team_model.specs.Strikes.{brings_user, is_striking, strikes_by}
use Rattle.team_model.specs.Judging.{Rules, name_of, prev_of, order_of, past_of, place_of, strikes_among, seniority, is_senior, strikers, standing_strikers, decision_in, stays, resolved_from, first_striker, fold_team, lawful_by, team_within, team, unlawful_reason, lawful, resolved, at_turn, striker_verdict, lawful_verdict, verdict}
use Rattle.team_model.specs.JudgingLaws.{MeanSame}
use Rattle.team_model.specs.State.{State}
use Rattle.team_model.specs.declared.terms.Link.{Link}
use Rattle.team_model.specs.declared.terms.Verdict.TheVariants.{Counts, Unlawful, Struck, Refused, Waiting}
use Rattle.team_model.proofs.Teams.{within_same}

pub map_alike : {A B : Type 0} (f g : A → B) (xs : List A) → ((x : A) → IsIn x xs → f x ≡ g x) → map f xs ≡ map g xs
map_alike f g [] h = refl
map_alike f g (x ∷ xs) h = λ i. h x (inl refl) i ∷ map_alike f g xs (λ y k. h y (inr k)) i

module _ (rules : Rules) (links others : List Link) (same : HaveSameConnected name_of prev_of links others) where
  abbrev mine : Link → Link → Bool
  mine x y = strikes_among rules.device_of links x y

  abbrev theirs : Link → Link → Bool
  theirs x y = strikes_among rules.device_of others x y

  pub strikes-alike : (x y : Link) → IsIn x (order_of links) → IsIn y (order_of links) → mine x y ≡ theirs x y
  strikes-alike x y k j = ap (λ b. b && strikes_by rules.device_of x.entry y.entry) (same.concurrent x y k j)

  pub place-alike : (x : Link) → IsIn x (order_of links) → place_of links x ≡ place_of others x
  place-alike x k = ap (λ (h : ℕ). (h, x.name)) (same.heights x k)

  -- over links that are all connected, as the lawful ones are
  module _ (kept : List Link) (of : (x : Link) → IsIn x kept → IsIn x (order_of links)) where
    seniority-alike : (u : Name) → seniority links kept u ≡ seniority others kept u
    seniority-alike u =
        ap (λ l. unwrap_or (least_place l) (0, []))
        (map_alike (place_of links) (place_of others) (filter (λ x. brings_user x.entry u) kept) (λ x k. place-alike x (of x (of_filter (λ x. brings_user x.entry u) x kept k).0)))

    senior-alike : (x y : Link) → IsIn x kept → IsIn y kept → is_senior links kept x y ≡ is_senior others kept x y
    senior-alike x y k j = λ i.
        place_lt (seniority-alike x.entry.user i) (seniority-alike y.entry.user i)
        || (not (place_lt (seniority-alike y.entry.user i) (seniority-alike x.entry.user i)) && place_lt (place-alike x (of x k) i) (place-alike y (of y j) i))

    of_strikers : (x : Link) → IsIn x (strikers links kept) → IsIn x kept
    of_strikers x k = (of_filter (λ x. is_striking x.entry.act) x kept k).0

    rank-alike : RankAlike (is_senior links kept) mine (is_senior others kept) theirs (strikers links kept)
    rank-alike = record {
      ranked = λ x y k j. senior-alike x y (of_strikers x k) (of_strikers y j);
      struck = λ x y k j. strikes-alike x y (of x (of_strikers x k)) (of y (of_strikers y j));
    }

    standing_alike : standing_strikers rules links kept ≡ standing_strikers rules others kept
    standing_alike = standing-alike (is_senior links kept) mine (is_senior others kept) theirs (strikers links kept) rank-alike

    standing_in : (s : Link) → IsIn s (standing_strikers rules others kept) → IsIn s (order_of links)
    standing_in s k = of s (of_strikers s (standing-members (is_senior others kept) theirs (strikers links kept) s k))

    decided_alike : (x : Link) → IsIn x (order_of links) → decision_in rules links kept x ≡ decision_in rules others kept x
    decided_alike x k =
        decision-alike (is_senior links kept) mine (is_senior others kept) theirs (strikers links kept) rank-alike x
        (λ s j. let here = of s (of_strikers s j) in (strikes-alike s x here k, strikes-alike x s k here))

    resolved_alike : resolved_from rules links kept ≡ resolved_from rules others kept
    resolved_alike =
        ap (λ l. filter (stays rules links kept l) kept) standing_alike
        ∙ filter_alike (stays rules links kept (standing_strikers rules others kept)) (stays rules others kept (standing_strikers rules others kept)) kept
        (λ x k. ap (λ b. (not (is_striking x.entry.act) || has_name (map name_of (standing_strikers rules others kept)) x.name) && not b)
        (any_alike (λ s. mine s x) (λ s. theirs s x) (standing_strikers rules others kept) (λ s j. strikes-alike s x (standing_in s j) (of x k))))

    striker_alike : (x : Link) → IsIn x (order_of links) → first_striker rules links kept x ≡ first_striker rules others kept x
    striker_alike x k =
        find_alike (λ s. has_name (map name_of (standing_strikers rules links kept)) s.name && mine s x) (λ s. has_name (map name_of (standing_strikers rules others kept)) s.name && theirs s x) kept
        (λ s j. λ i. has_name (map name_of (standing_alike i)) s.name && strikes-alike s x (of s j) k i)

module _ (rules : Rules) where
  -- what tells the team of a set by its order alone
  unfoldable IsOfOrder : (List Link → State) → Type 0
  IsOfOrder t = (links others : List Link) → NamesDiffer name_of links → NamesDiffer name_of others → order_of links ≡ order_of others → t links ≡ t others

  in_order : (t : List Link → State) (links : List Link) (x : Link) → IsIn x (lawful_by rules t links) → IsIn x (order_of links)
  in_order t links x k = (of_filter (λ x. is_none (rules.refusal (t (past_of links x)) x.entry)) x (order_of links) k).0

  lawful_alike : (t : List Link → State) → IsOfOrder t → (links others : List Link) → NamesDiffer name_of links → NamesDiffer name_of others → order_of links ≡ order_of others
      → lawful_by rules t links ≡ lawful_by rules t others
  unfolding IsOfOrder
  lawful_alike t of links others differ apart orders =
      filter_alike (λ x. is_none (rules.refusal (t (past_of links x)) x.entry)) (λ x. is_none (rules.refusal (t (past_of others x)) x.entry)) (order_of links)
      (λ x k. ap (λ s. is_none (rules.refusal s x.entry))
      (of (past_of links x) (past_of others x) (differ-past name_of prev_of links differ x) (differ-past name_of prev_of others apart x)
      ((same_connected name_of prev_of links others differ apart orders).pasts x k)))
      ∙ ap (λ o. filter (λ x. is_none (rules.refusal (t (past_of others x)) x.entry)) o) orders

  within_alike : (n : ℕ) → IsOfOrder (team_within rules n)
  unfolding IsOfOrder
  within_alike zero links others differ apart orders = refl
  within_alike (suc n) links others differ apart orders =
      ap (λ l. fold_team rules (resolved_from rules links l)) (lawful_alike (team_within rules n) (within_alike n) links others differ apart orders)
      ∙ ap (λ l. fold_team rules l)
      (resolved_alike rules links others (same_connected name_of prev_of links others differ apart orders) (lawful_by rules (team_within rules n) others)
      (λ x k. subst (λ o. IsIn x o) (sym orders) (in_order (team_within rules n) others x k)))

  team_alike : (links others : List Link) → NamesDiffer name_of links → NamesDiffer name_of others → order_of links ≡ order_of others → team rules links ≡ team rules others
  unfolding IsOfOrder
  team_alike links others differ apart orders =
      within_same rules (length links) (length links + length others) links differ (omega arith) (omega arith)
      ∙ within_alike (length links + length others) links others differ apart orders
      ∙ within_same rules (length links + length others) (length others) others apart (omega arith) (omega arith)

  module _ (links others : List Link) (differ : NamesDiffer name_of links) (apart : NamesDiffer name_of others) (orders : order_of links ≡ order_of others) where
    connected : HaveSameConnected name_of prev_of links others
    connected = same_connected name_of prev_of links others differ apart orders

    judged : lawful rules links ≡ lawful rules others
    unfolding IsOfOrder
    judged = lawful_alike (team rules) team_alike links others differ apart orders

    of_lawful : (x : Link) → IsIn x (lawful rules others) → IsIn x (order_of links)
    of_lawful x k = subst (λ o. IsIn x o) (sym orders) (in_order (team rules) others x k)

    resolves : resolved rules links ≡ resolved rules others
    resolves = ap (λ l. resolved_from rules links l) judged ∙ resolved_alike rules links others connected (lawful rules others) of_lawful

    turn_alike : (x : Link) → at_turn rules links x ≡ at_turn rules others x
    turn_alike x = ap (λ l. option_map_or (λ r. Refused r) (rules.refusal (fold_team rules (take_while (λ y. not (same_name y.name x.name)) l)) x.entry) Counts) resolves

    one_decided : (x : Link) (s : Decided Link) → striker_verdict rules links x s ≡ striker_verdict rules others x s
    one_decided x stands = turn_alike x
    one_decided x (struck s) = refl
    one_decided x (lost s) = refl

    striking_alike : (x : Link) → IsIn x (order_of links)
        → striker_verdict rules links x (decision_in rules links (lawful rules links) x) ≡ striker_verdict rules others x (decision_in rules others (lawful rules others) x)
    striking_alike x k =
        ap (λ s. striker_verdict rules links x s) (ap (λ l. decision_in rules links l x) judged ∙ decided_alike rules links others connected (lawful rules others) of_lawful x k)
        ∙ one_decided x (decision_in rules others (lawful rules others) x)

    first_alike : (x : Link) → IsIn x (order_of links) → first_striker rules links (lawful rules links) x ≡ first_striker rules others (lawful rules others) x
    first_alike x k = ap (λ l. first_striker rules links l x) judged ∙ striker_alike rules links others connected (lawful rules others) of_lawful x k

    lawful_verdict_alike : (x : Link) → IsIn x (order_of links) → lawful_verdict rules links x ≡ lawful_verdict rules others x
    lawful_verdict_alike x k = λ i. cond (is_striking x.entry.act) (striking_alike x k i) (option_map_or (λ (s : Link). Struck s.name) (first_alike x k i) (turn_alike x i))

    reason_alike : (x : Link) → IsIn x (order_of links) → unlawful_reason rules links x ≡ unlawful_reason rules others x
    reason_alike x k = ap (λ s. rules.refusal s x.entry)
        (team_alike (past_of links x) (past_of others x) (differ-past name_of prev_of links differ x) (differ-past name_of prev_of others apart x) (connected.pasts x k))

    judged_alike : (x : Link) → IsIn x (order_of links) → option_map_or (λ r. Unlawful r) (unlawful_reason rules links x) (lawful_verdict rules links x)
        ≡ option_map_or (λ r. Unlawful r) (unlawful_reason rules others x) (lawful_verdict rules others x)
    judged_alike x k = λ i. option_map_or (λ r. Unlawful r) (reason_alike x k i) (lawful_verdict_alike x k i)

    -- a link whose name is a connected one's is that one
    is_connected : (x : Link) → IsIn x links → has_name (map name_of (order_of links)) x.name ≡ true → IsIn x (order_of links)
    is_connected x k h =
        let y = one_named name_of (order_of links) x.name h in
        let of : IsIn y.0 links = in_links name_of prev_of links differ y.0 y.1 in
        subst (λ z. IsIn z (order_of links)) (differ y.0 x of k y.2) y.1

    verdict_alike : (x : Link) → IsIn x links → verdict rules links x ≡ verdict rules others x
    verdict_alike x k = go (has_name (map name_of (order_of links)) x.name) refl
      where
        there : {b : Bool} → has_name (map name_of (order_of links)) x.name ≡ b → has_name (map name_of (order_of others)) x.name ≡ b
        there h = ap (λ o. has_name (map name_of o) x.name) (sym orders) ∙ h

        go : (b : Bool) → has_name (map name_of (order_of links)) x.name ≡ b → verdict rules links x ≡ verdict rules others x
        go true h =
            ap (λ b. cond b (option_map_or (λ r. Unlawful r) (unlawful_reason rules links x) (lawful_verdict rules links x)) Waiting) h
            ∙ judged_alike x (is_connected x k h)
            ∙ sym (ap (λ b. cond b (option_map_or (λ r. Unlawful r) (unlawful_reason rules others x) (lawful_verdict rules others x)) Waiting) (there h))
        go false h =
            ap (λ b. cond b (option_map_or (λ r. Unlawful r) (unlawful_reason rules links x) (lawful_verdict rules links x)) Waiting) h
            ∙ sym (ap (λ b. cond b (option_map_or (λ r. Unlawful r) (unlawful_reason rules others x) (lawful_verdict rules others x)) Waiting) (there h))

    counting_alike : counting_links rules links ≡ counting_links rules others
    counting_alike =
        filter_alike (λ x. is_counting (verdict rules links x)) (λ x. is_counting (verdict rules others x)) (order_of links)
        (λ x k. ap is_counting (verdict_alike x (in_links name_of prev_of links differ x k)))
        ∙ ap (λ o. filter (λ x. is_counting (verdict rules others x)) o) orders

    pub mean_same : MeanSame rules links others
    mean_same = record {
      orders = orders;
      places = place-alike rules links others connected;
      strikes = strikes-alike rules links others connected;
      judged = judged;
      resolves = resolves;
      teams = team_alike links others differ apart orders;
      verdicts = verdict_alike;
      counting = counting_alike;
    }

  -- a set means what its connected links mean as a set of their own
  pub waiting_mean_same : (links : List Link) → NamesDiffer name_of links → MeanSame rules links (order_of links)
  waiting_mean_same links differ =
      mean_same links (order_of links) differ (differ-order name_of prev_of links differ) (sym (order-order name_of prev_of links differ))

  pub set_means_same : (links others : List Link) → NamesDiffer name_of links → NamesDiffer name_of others → HaveSameMembers links others → MeanSame rules links others
  set_means_same links others differ apart same =
      mean_same links others differ apart (order-same name_of prev_of links others differ apart same.forth same.back)
