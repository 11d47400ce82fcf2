-- With other publics a plan is the same, but for its new keys.
use Rattle.std.proofs.Common.{◌≡◌, ◌+◌, ℕ, Bool, true, false, not, ◌&&◌, ◌||◌, cond, List, [], ◌∷◌, ◌++◌, filter, find, flat_map, length, map, nat_lt, Some, refl, sym, ◌∙◌, ap, subst, inl, inr, ◌⊎◌, arith}
use Rattle.std.specs.List.Sorted.{IsStrictlySortedBy}
use Rattle.std.specs.Ordering.{is_eq, is_lt, ordering_then}
use Rattle.std.specs.declared.cmp.Ordering.{Ordering}
use Rattle.std.specs.declared.cmp.Ordering.TheVariants.{Less, Equal, Greater}
use Rattle.std.proofs.lemmas.Bool.{false_from_ne_true, false≢true}
use Rattle.team_sets.specs.Closure.{has}
use Rattle.team_sets.specs.Members.{IsIn}
use Rattle.team_sets.specs.Names.{put_in}
use Rattle.team_sets.proofs.OrderLeast.{of_filter}
use Rattle.team_sets.proofs.Pasts.{any_of}
use Rattle.tg_text.specs.Order.{key_cmp, scope_cmp}
use Rattle.tg_text.specs.declared.keys.KeyId.{KeyId}
use Rattle.tg_text.specs.declared.keys.Scope.{Scope}
use Rattle.acts.specs.declared.entry.Entry.{Entry}
use Rattle.key_reach.specs.Keys.{Table, clean, current_keys, has_box, is_device, is_role, is_tainted, is_team, keys_of, lacks, lacks_box, plans, same_key, same_scope}
use Rattle.key_reach.proofs.Currents.{has-in-key, in-has-key}
use Rattle.key_reach.proofs.Equal.{key-is}
use Rattle.key_reach.proofs.Meeting.{scope-same}
use Rattle.key_reach.proofs.Members.{in-either, in-left}
use Rattle.key_reach.proofs.Numbered.{in-map, of-map}
use Rattle.key_laws.proofs.Lacking.{box_held, clean_parts, of_lacks}
use Rattle.team_model.specs.KeyLines.{next_generation, taken_news}
use Rattle.team_model.specs.KeyTables.{all_keys, is_allowed, key_of_device, key_table, live_scopes, put_current}
use Rattle.team_model.specs.State.{State, lists_device}
use Rattle.team_state.specs.Kept.{IsOrdered}
use Rattle.team_state.proofs.Current.{next-is}
use Rattle.team_state.proofs.Lawful.{key-only}
use Rattle.team_state.proofs.Listed.{length-of-map}
use Rattle.team_state.proofs.Staying.{by_cases}
use Rattle.team_reducer.specs.Sound.{IsKeyed}
use Rattle.team_reducer.proofs.Taken.{IsDue, due-so}
use Rattle.team_plans.specs.Plans.{due, lacking, lacks_by_content, most_planned_boxes, plan_news, plan_scopes, plan_state, same_pair, unknown}
use Rattle.team_plans.specs.Renaming.{IsAlike, renamed, renamed_pair}
use Rattle.team_plans.proofs.AllTaken.{plan_taken, scopes_are_those, scopes_ascend}
use Rattle.team_plans.proofs.LiveScopes.{of_devices}
use Rattle.team_plans.proofs.Mapped.{any_appended, filter_mapped, find_mapped, flat_alike, flat_of_map, map_append, map_fixed, map_twice, put_mapped}
use Rattle.team_plans.proofs.Owing.{of_by_content}
use Rattle.team_plans.proofs.PlanLines.{arrows_with, not_before, taint_with}
use Rattle.team_plans.proofs.Planned.{news_fit}
use Rattle.team_plans.proofs.Renamed.{renamed_all, renamed_other, renamed_scope, scopes_in}
use Rattle.team_plans.proofs.StateTables.{next_clean, next_unboxed, next_unsealed, of_currents}
use Rattle.team_plans.proofs.TakenKeys.{NoneOf, of_all, put_all}

abbrev by_scope : KeyId → KeyId → Bool
by_scope a b = is_lt (scope_cmp a.scope b.scope)

abbrev put_in_order : KeyId → List KeyId → List KeyId
put_in_order k ks = put_in by_scope k ks

both_equal : (r s : Ordering) → is_eq (ordering_then r s) ≡ true → (is_eq r ≡ true) × (is_eq s ≡ true)
both_equal Less s h = absurd (false≢true h)
both_equal Equal s h = (refl, h)
both_equal Greater s h = absurd (false≢true h)

-- what makes plans of one act comparable
pub record MayRename (s t : State) (e : Entry) : Type 0 where
  pub currents : t.currents ≡ s.currents
  pub keyed : IsKeyed t
  pub ordered : IsOrdered t
  pub listed : lists_device t e.user e.device ≡ true

module _ (s t : State) (e : Entry) (may : MayRename s t e) where
  new_due : (publics : List (List ℕ)) (k : KeyId) → IsIn k (plan_news s t e publics) → IsDue t e k
  new_due publics k i = due-so t e k (news_fit s t e may.listed publics k i)

  -- a key that is there already isn't planned
  current_not_new : (publics : List (List ℕ)) (k : KeyId) → IsIn k t.currents → IsIn k (plan_news s t e publics) → ⊥
  current_not_new publics k i j =
      let next : next_generation t k.scope ≡ k.generation + 1 = next-is t k.scope (Some k) (key-only t may.ordered k.scope k (in-left t.currents (map key_of_device t.devices) k i) (scope-same k.scope)) in
      let its = (new_due publics k j).next in
      omega (arith, next, its)

  device_not_new : (publics : List (List ℕ)) (k : KeyId) → is_device k.scope ≡ true → IsIn k (plan_news s t e publics) → ⊥
  device_not_new publics k device j = false≢true (sym (new_due publics k j).other ∙ device)

  -- nor does it stand in a box
  no_box_to : (publics : List (List ℕ)) (k of : KeyId) → IsIn k (plan_news s t e publics) → has_box t.boxes k of ≡ false
  no_box_to publics k of i = false_from_ne_true (has_box t.boxes k of) (λ h.
      let b = box_held t.boxes k of h in
      next_unsealed t may.keyed e k (new_due publics k i) b.0 b.1 b.2)

  no_box_of : (publics : List (List ℕ)) (to k : KeyId) → IsIn k (plan_news s t e publics) → has_box t.boxes to k ≡ false
  no_box_of publics to k i = false_from_ne_true (has_box t.boxes to k) (λ h.
      let b = box_held t.boxes to k h in
      next_unboxed t may.keyed e k (new_due publics k i) b.0 b.1 b.3)

  -- nor in a pair that lacked a box before
  before_not_new : (publics : List (List ℕ)) (k : KeyId) → IsIn k (clean (key_table s)) → IsIn k (plan_news s t e publics) → ⊥
  before_not_new publics k i j = go (in-either s.currents (map key_of_device s.devices) k (of_currents (key_table s) k (clean_parts (key_table s) k i).0).0)
    where
      go : IsIn k s.currents ⊎ IsIn k (map key_of_device s.devices) → ⊥
      go (inl m) = current_not_new publics k (subst (λ ks. IsIn k ks) (sym may.currents) m) j
      go (inr m) = device_not_new publics k (of_devices s.devices k m) j

  no_lack : (publics : List (List ℕ)) (q : KeyId × KeyId) → IsIn q.0 (plan_news s t e publics) ⊎ IsIn q.1 (plan_news s t e publics) → has same_pair (lacks (key_table s)) q ≡ false
  no_lack publics q new = false_from_ne_true (has same_pair (lacks (key_table s)) q) (λ h.
      let r = any_of (same_pair q) (lacks (key_table s)) h in
      let is = of_lacks (key_table s) r.0 r.1 in
      let same = both_equal (key_cmp q.0 r.0.0) (key_cmp q.1 r.0.1) r.2 in
      go r.0 is.to is.of (key-is q.0 r.0.0 same.0) (key-is q.1 r.0.1 same.1) new)
    where
      go : (r : KeyId × KeyId) → IsIn r.0 (clean (key_table s)) → IsIn r.1 (clean (key_table s)) → q.0 ≡ r.0 → q.1 ≡ r.1
          → IsIn q.0 (plan_news s t e publics) ⊎ IsIn q.1 (plan_news s t e publics) → ⊥
      go r to of first second (inl i) = before_not_new publics r.0 to (subst (λ k. IsIn k (plan_news s t e publics)) first i)
      go r to of first second (inr i) = before_not_new publics r.1 of (subst (λ k. IsIn k (plan_news s t e publics)) second i)

  module _ (ps qs : List (List ℕ)) (each_p : length ps ≡ length (plan_scopes s t e)) (each_q : length qs ≡ length (plan_scopes s t e)) where
    abbrev olds : List KeyId
    olds = plan_news s t e ps

    abbrev news : List KeyId
    news = plan_news s t e qs

    abbrev to_new : KeyId → KeyId
    to_new k = renamed olds news k

    abbrev pair_to_new : KeyId × KeyId → KeyId × KeyId
    pair_to_new p = renamed_pair olds news p

    abbrev first : Table
    first = key_table (plan_state s t e ps)

    abbrev second : Table
    second = key_table (plan_state s t e qs)

    same_scopes : scopes_in olds ≡ scopes_in news
    same_scopes = scopes_are_those t (plan_scopes s t e) ps each_p ∙ sym (scopes_are_those t (plan_scopes s t e) qs each_q)

    scope_kept : (k : KeyId) → (to_new k).scope ≡ k.scope
    scope_kept k = renamed_scope olds news same_scopes k

    fixed : (k : KeyId) → has same_key olds k ≡ false → to_new k ≡ k
    fixed k h = renamed_other olds news k h

    same_length : length olds ≡ length news
    same_length =
        let one = length-of-map (λ (k : KeyId). k.scope) olds in
        let two = length-of-map (λ (k : KeyId). k.scope) news in
        sym one ∙ ap (λ (l : List Scope). length l) same_scopes ∙ two

    all_new : map to_new olds ≡ news
    all_new =
        renamed_all olds news same_length
        (subst (λ l. IsStrictlySortedBy scope_cmp l) (sym (scopes_are_those t (plan_scopes s t e) ps each_p)) (scopes_ascend s t e may.listed may.ordered))

    moved : (k : KeyId) → has same_key olds k ≡ true → IsIn (to_new k) news
    moved k h = subst (λ l. IsIn (to_new k) l) all_new (in-map to_new k olds (in-has-key olds k h))

    old_key : (k : KeyId) → has same_key olds k ≡ true → IsIn k olds
    old_key k h = in-has-key olds k h

    not_old : (k : KeyId) → (IsIn k olds → ⊥) → has same_key olds k ≡ false
    not_old k never = false_from_ne_true (has same_key olds k) (λ h. never (old_key k h))

    -- the current keys
    put_one : (k : KeyId) (cs : List KeyId) → put_current (to_new k) (map to_new cs) ≡ map to_new (put_current k cs)
    put_one k cs =
        ap (λ l. put_in_order (to_new k) l)
        (filter_mapped to_new (λ c. not (same_scope c.scope k.scope)) (λ c. not (same_scope c.scope (to_new k).scope)) cs (λ c i j. not (same_scope (scope_kept c j) (scope_kept k j))))
        ∙ put_mapped to_new by_scope by_scope (λ x y j. is_lt (scope_cmp (scope_kept x j) (scope_kept y j))) k (filter (λ c. not (same_scope c.scope k.scope)) cs)

    put_both : (ks cs : List KeyId) → put_all (map to_new cs) (map to_new ks) ≡ map to_new (put_all cs ks)
    put_both [] cs = refl
    put_both (k ∷ ks) cs = ap (λ l. put_all l (map to_new ks)) (put_one k cs) ∙ put_both ks (put_current k cs)

    currents_fixed : map to_new t.currents ≡ t.currents
    currents_fixed = map_fixed to_new t.currents (λ k i. fixed k (not_old k (current_not_new ps k i)))

    devices_fixed : map to_new (map key_of_device t.devices) ≡ map key_of_device t.devices
    devices_fixed = map_fixed to_new (map key_of_device t.devices) (λ k i. fixed k (not_old k (device_not_new ps k (of_devices t.devices k i))))

    currents_then : put_all t.currents (taken_news t e news) ≡ map to_new (put_all t.currents (taken_news t e olds))
    currents_then =
        ap (λ l. put_all t.currents l) (plan_taken s t e may.listed may.ordered qs each_q)
        ∙ (λ i. put_all (sym currents_fixed i) (sym all_new i))
        ∙ put_both olds t.currents
        ∙ ap (λ l. map to_new (put_all t.currents l)) (sym (plan_taken s t e may.listed may.ordered ps each_p))

    keys_then : second.currents ≡ map to_new first.currents
    keys_then =
        (λ i. currents_then i ++ sym devices_fixed i) ∙ sym (map_append to_new (put_all t.currents (taken_news t e olds)) (map key_of_device t.devices))

    scope_keys : (c : Scope) → keys_of second c ≡ map to_new (keys_of first c)
    scope_keys c =
        ap (λ l. filter (λ (k : KeyId). same_scope k.scope c) l) keys_then
        ∙ filter_mapped to_new (λ k. same_scope k.scope c) (λ k. same_scope k.scope c) first.currents (λ k i j. same_scope (scope_kept k j) c)

    current_then : current_keys second ≡ map to_new (current_keys first)
    current_then = flat_alike (keys_of first) (keys_of second) to_new (live_scopes t) (λ c i. scope_keys c)

    -- taint, arrows and boxes
    taint_same : (k : KeyId) → is_tainted second (to_new k) ≡ is_tainted first k
    taint_same k = by_cases (has same_key olds k) new old
      where
        new : has same_key olds k ≡ true → is_tainted second (to_new k) ≡ is_tainted first k
        new h =
            taint_with t e news may.keyed (to_new k) ∙ next_clean t may.keyed e (to_new k) (new_due qs (to_new k) (moved k h))
            ∙ sym (taint_with t e olds may.keyed k ∙ next_clean t may.keyed e k (new_due ps k (old_key k h)))

        old : has same_key olds k ≡ false → is_tainted second (to_new k) ≡ is_tainted first k
        old h = ap (λ j. is_tainted second j) (fixed k h) ∙ taint_with t e news may.keyed k ∙ sym (taint_with t e olds may.keyed k)

    clean_then : clean second ≡ map to_new (clean first)
    clean_then =
        ap (λ l. filter (λ k. not (is_tainted second k)) l) current_then
        ∙ filter_mapped to_new (λ k. not (is_tainted first k)) (λ k. not (is_tainted second k)) (current_keys first) (λ k i. ap not (taint_same k))

    plans_same : (to of : KeyId) → plans second (to_new to) (to_new of) ≡ plans first to of
    plans_same to of =
        (λ i. (arrows_with t e news (to_new to).scope (to_new of).scope ∙ sym (arrows_with t e olds (to_new to).scope (to_new of).scope)) i && not (is_role (to_new to).scope && is_team (to_new of).scope))
        ∙ (λ i. is_allowed (plan_state s t e ps) (scope_kept to i) (scope_kept of i) && not (is_role (scope_kept to i) && is_team (scope_kept of i)))

    box_same : (to of : KeyId) → has_box t.boxes (to_new to) (to_new of) ≡ has_box t.boxes to of
    box_same to of = by_cases (has same_key olds to) new_to (λ old. by_cases (has same_key olds of) new_of (λ also. λ i. has_box t.boxes (fixed to old i) (fixed of also i)))
      where
        new_to : has same_key olds to ≡ true → has_box t.boxes (to_new to) (to_new of) ≡ has_box t.boxes to of
        new_to h = no_box_to qs (to_new to) (to_new of) (moved to h) ∙ sym (no_box_to ps to of (old_key to h))

        new_of : has same_key olds of ≡ true → has_box t.boxes (to_new to) (to_new of) ≡ has_box t.boxes to of
        new_of h = no_box_of qs (to_new to) (to_new of) (moved of h) ∙ sym (no_box_of ps to of (old_key of h))

    lack_same : (to of : KeyId) → lacks_box second (to_new to) (to_new of) ≡ lacks_box first to of
    lack_same to of = λ i. plans_same to of i && not (box_same to of i)

    lacking_then : (of : KeyId) → lacking second (to_new of) ≡ map pair_to_new (lacking first of)
    lacking_then of =
        ap (λ l. map (λ to. (to, to_new of)) (filter (λ to. lacks_box second to (to_new of)) l)) clean_then
        ∙ ap (λ l. map (λ to. (to, to_new of)) l) (filter_mapped to_new (λ to. lacks_box first to of) (λ to. lacks_box second to (to_new of)) (clean first) (λ to i. lack_same to of))
        ∙ map_twice to_new (λ to. (to, to_new of)) (filter (λ to. lacks_box first to of) (clean first))
        ∙ sym (map_twice (λ to. (to, of)) pair_to_new (filter (λ to. lacks_box first to of) (clean first)))

    lacks_then : lacks_by_content second ≡ map pair_to_new (lacks_by_content first)
    lacks_then =
        ap (λ l. flat_map (lacking second) l) clean_then
        ∙ flat_of_map to_new (lacking second) (clean first)
        ∙ flat_alike (lacking first) (λ of. lacking second (to_new of)) pair_to_new (clean first) (λ of i. lacking_then of)

    before_same : (p : KeyId × KeyId) → has same_pair (lacks (key_table s)) (pair_to_new p) ≡ has same_pair (lacks (key_table s)) p
    before_same p =
        by_cases (has same_key olds p.0) (λ h. no_lack qs (pair_to_new p) (inl (moved p.0 h)) ∙ sym (no_lack ps p (inl (old_key p.0 h))))
        (λ old. by_cases (has same_key olds p.1) (λ h. no_lack qs (pair_to_new p) (inr (moved p.1 h)) ∙ sym (no_lack ps p (inr (old_key p.1 h))))
        (λ also. λ i. has same_pair (lacks (key_table s)) (fixed p.0 old i, fixed p.1 also i)))

    due_is : (publics : List (List ℕ)) → due s t e publics ≡ filter (not_before s) (lacks_by_content (key_table (plan_state s t e publics)))
    due_is publics = ap (λ b. cond b (filter (not_before s) (lacks_by_content (key_table (plan_state s t e publics)))) []) may.listed

    due_same : due s t e qs ≡ map pair_to_new (due s t e ps)
    due_same =
        due_is qs ∙ ap (λ l. filter (not_before s) l) lacks_then
        ∙ filter_mapped pair_to_new (not_before s) (not_before s) (lacks_by_content first) (λ p i. ap not (before_same p))
        ∙ ap (λ l. map pair_to_new l) (sym (due_is ps))

    -- the contents of due boxes
    abbrev contents : List (KeyId × KeyId) → List KeyId
    contents pairs = map (λ p. p.1) pairs

    contents_then : contents (due s t e qs) ≡ map to_new (contents (due s t e ps))
    contents_then =
        ap contents due_same ∙ map_twice pair_to_new (λ p. p.1) (due s t e ps) ∙ sym (map_twice (λ p. p.1) to_new (due s t e ps))

    -- a content that isn't new with the first publics isn't with the second
    content_known : (k : KeyId) → IsIn k (contents (due s t e ps)) → has same_key olds k ≡ false → has same_key news k ≡ false
    content_known k i old = false_from_ne_true (has same_key news k) (λ h. never (in-has-key news k h))
      where
        there : IsIn k (all_keys (plan_state s t e ps))
        there =
            let p = of-map (λ (p : KeyId × KeyId). p.1) k (due s t e ps) i in
            let q = of_filter (not_before s) p.0 (lacks_by_content first) (subst (λ l. IsIn p.0 l) (due_is ps) p.1) in
            let is = of_by_content first p.0 q.0 in
            subst (λ j. IsIn j (all_keys (plan_state s t e ps))) p.2 (of_currents first p.0.1 (clean_parts first p.0.1 is.of).0).0

        by_put : IsIn k news → IsIn k (taken_news t e olds) ⊎ (IsIn k t.currents × NoneOf (taken_news t e olds) k) → ⊥
        by_put j (inl m) = false≢true (sym old ∙ has-in-key olds k (subst (λ l. IsIn k l) (plan_taken s t e may.listed may.ordered ps each_p) m))
        by_put j (inr m) = current_not_new qs k m.0 j

        by_part : IsIn k news → IsIn k (put_all t.currents (taken_news t e olds)) ⊎ IsIn k (map key_of_device t.devices) → ⊥
        by_part j (inl m) = by_put j (of_all (taken_news t e olds) t.currents k m)
        by_part j (inr m) = device_not_new qs k (of_devices t.devices k m) j

        never : IsIn k news → ⊥
        never j = by_part j (in-either (put_all t.currents (taken_news t e olds)) (map key_of_device t.devices) k there)

    module _ (opened : List KeyId) where
      abbrev unknown_first : KeyId → Bool
      unknown_first k = not (has same_key (olds ++ opened) k)

      abbrev unknown_second : KeyId → Bool
      unknown_second k = not (has same_key (news ++ opened) k)

      known_new : (ks : List KeyId) (k : KeyId) → has same_key ks k ≡ true → not (has same_key (ks ++ opened) k) ≡ false
      known_new ks k h = ap not (any_appended (same_key k) ks opened ∙ ap (λ b. b || has same_key opened k) h)

      known_opened : (ks : List KeyId) (k : KeyId) → has same_key ks k ≡ false → not (has same_key (ks ++ opened) k) ≡ not (has same_key opened k)
      known_opened ks k h = ap not (any_appended (same_key k) ks opened ∙ ap (λ b. b || has same_key opened k) h)

      test_same : (k : KeyId) → IsIn k (contents (due s t e ps)) → unknown_second (to_new k) ≡ unknown_first k
      test_same k i =
          by_cases (has same_key olds k) (λ h. known_new news (to_new k) (has-in-key news (to_new k) (moved k h)) ∙ sym (known_new olds k h))
          (λ old. ap unknown_second (fixed k old) ∙ known_opened news k (content_known k i old) ∙ sym (known_opened olds k old))

      found_fixed : (k : KeyId) → IsIn k (contents (due s t e ps)) → unknown_first k ≡ true → to_new k ≡ k
      found_fixed k i h = by_cases (has same_key olds k) (λ new. absurd (false≢true (sym (known_new olds k new) ∙ h))) (λ old. fixed k old)

      unknown_same : unknown s t e qs opened ≡ unknown s t e ps opened
      unknown_same = ap (λ l. find unknown_second l) contents_then ∙ find_mapped to_new unknown_first unknown_second (contents (due s t e ps)) test_same found_fixed

    pub listed_alike : IsAlike s t e ps qs
    listed_alike = record {
      due = due_same;
      unknown = unknown_same;
      large = ap (λ n. nat_lt most_planned_boxes n) (ap (λ (l : List (KeyId × KeyId)). length l) due_same ∙ length-of-map pair_to_new (due s t e ps));
    }

-- whose device isn't listed plans nothing with any publics
pub unlisted_alike : (s t : State) (e : Entry) (ps qs : List (List ℕ)) → lists_device t e.user e.device ≡ false → IsAlike s t e ps qs
unlisted_alike s t e ps qs unlisted = record {
  due = none qs ∙ sym (ap (λ l. map (renamed_pair (plan_news s t e ps) (plan_news s t e qs)) l) (none ps));
  unknown = λ opened. nothing qs opened ∙ sym (nothing ps opened);
  large = ap (λ (l : List (KeyId × KeyId)). nat_lt most_planned_boxes (length l)) (none qs ∙ sym (none ps));
}
  where
    none : (publics : List (List ℕ)) → due s t e publics ≡ []
    none publics = ap (λ b. cond b (filter (not_before s) (lacks_by_content (key_table (plan_state s t e publics)))) []) unlisted

    nothing : (publics : List (List ℕ)) (opened : List KeyId) → unknown s t e publics opened ≡ find (λ k. not (has same_key (plan_news s t e publics ++ opened) k)) []
    nothing publics opened = ap (λ l. find (λ k. not (has same_key (plan_news s t e publics ++ opened) k)) (map (λ p. p.1) l)) (none publics)
