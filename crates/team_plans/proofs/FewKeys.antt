-- A plan has keys for the team, for the roles, and for one user at most.
use Rattle.std.proofs.Common.{◌≡◌, ◌≤◌, ◌+◌, Bool, true, false, not, ◌&&◌, cond, List, [], ◌∷◌, ◌++◌, filter, length, map, Option, Some, None, refl, sym, ◌∙◌, ap, subst, inl, inr, ◌⊎◌, arith}
use Rattle.std.specs.List.{list_any}
use Rattle.std.specs.Option.{option_map_or}
use Rattle.std.proofs.lemmas.Bool.{and_from, and_parts, false≢true, not-true, or_parts}
use Rattle.std.proofs.lemmas.List.{length-append}
use Rattle.std.proofs.lemmas.List.Elements.{filter-append}
use Rattle.team_sets.specs.Members.{IsIn}
use Rattle.team_sets.specs.Names.{Name, same_name}
use Rattle.team_sets.specs.SortedLaws.{IsAscending, by_names}
use Rattle.team_sets.proofs.Agree.{any_in}
use Rattle.team_sets.proofs.OrderLeast.{in_filter, name_lt-irrefl, of_filter}
use Rattle.team_sets.proofs.Pasts.{all_at, any_of, same_name-is}
use Rattle.team_sets.proofs.Sorted.{all_of}
use Rattle.tg_text.specs.declared.keys.KeyId.{KeyId}
use Rattle.tg_text.specs.declared.keys.Scope.{Scope}
use Rattle.tg_text.specs.declared.keys.Scope.TheVariants.{Team, Role, User}
use Rattle.acts.specs.declared.entry.Act.{Act}
use Rattle.acts.specs.declared.entry.Act.TheVariants.{Found, AddMember, AdmitMember, Rotate}
use Rattle.acts.specs.declared.entry.Entry.{Entry}
use Rattle.key_reach.specs.Debts.{is_without_key}
use Rattle.key_reach.specs.Keys.{is_device, is_live, is_tainted, keys_of, same_scope}
use Rattle.key_reach.proofs.Currents.{has-in-scope}
use Rattle.key_reach.proofs.Meeting.{scope-is}
use Rattle.key_reach.proofs.Members.{in-either, in-left, in-right}
use Rattle.key_reach.proofs.Numbered.{in-map, of-map}
use Rattle.team_model.specs.ActTable.{after, refusal}
use Rattle.team_model.specs.KeyLines.{is_rotated, wants_key}
use Rattle.team_model.specs.KeyTables.{all_keys, key_of_device, key_table, live_scopes, scope_of_device, team_scopes}
use Rattle.team_model.specs.State.{State, is_empty_state, lists_device, lists_user}
use Rattle.team_model.specs.Strikes.{brings_user, brought_user}
use Rattle.team_model.specs.declared.terms.Member.{Member}
use Rattle.team_model.proofs.Brought.{from_not}
use Rattle.team_model.proofs.Lined.{lined-is}
use Rattle.team_state.proofs.Listed.{length-of-map}
use Rattle.team_state.proofs.Placed.{filter-none}
use Rattle.team_state.proofs.Staying.{by_cases, length-fewer, none_met}
use Rattle.team_reducer.specs.Sound.{IsSound}
use Rattle.team_reducer.proofs.Sounding.{only_brought_in}
use Rattle.team_reducer.proofs.Untouched.{untouched}
use Rattle.team_plans.specs.Plans.{effected, is_planned, owes, plan_scopes}
use Rattle.team_plans.specs.Touching.{most_planned_news, touched, user_of_scope}
use Rattle.team_plans.proofs.LiveScopes.{of_devices, user_listed}
use Rattle.team_plans.proofs.Owing.{either}
use Rattle.team_plans.proofs.Planned.{IsWanted, is_wanted}
use Rattle.team_plans.proofs.PlansOwe.{after_is}
use Rattle.team_plans.proofs.Touched.{taints_touched}

live_user : (s : State) (u : Name) → lists_user s u ≡ true → is_live (key_table s) (User u) ≡ true
live_user s u h =
    let m = any_of (λ m. same_name m.user u) s.members h in
    let there = in-map (λ (m : Member). User m.user) m.0 s.members m.1 in
    has-in-scope (live_scopes s) (User u)
    (subst (λ n. IsIn (User n) (live_scopes s)) (same_name-is m.0.user u m.2)
    (in-right (team_scopes s) (map (λ (r : Name). Role r) s.roles ++ (map (λ (m : Member). User m.user) s.members ++ map scope_of_device (filter (λ d. d.listed) s.devices))) (User m.0.user)
    (in-right (map (λ (r : Name). Role r) s.roles) (map (λ (m : Member). User m.user) s.members ++ map scope_of_device (filter (λ d. d.listed) s.devices)) (User m.0.user)
    (in-left (map (λ (m : Member). User m.user) s.members) (map scope_of_device (filter (λ d. d.listed) s.devices)) (User m.0.user) there))))

-- a key that isn't a device's is there in each state with the same current keys
pub moved_key : (p q : State) → p.currents ≡ q.currents → (k : KeyId) → is_device k.scope ≡ false → IsIn k (all_keys p) → IsIn k (all_keys q)
moved_key p q same k other i = go (in-either p.currents (map key_of_device p.devices) k i)
  where
    go : IsIn k p.currents ⊎ IsIn k (map key_of_device p.devices) → IsIn k (all_keys q)
    go (inl j) = in-left q.currents (map key_of_device q.devices) k (subst (λ ks. IsIn k ks) same j)
    go (inr j) = absurd (false≢true (sym other ∙ of_devices p.devices k j))

module _ (s : State) (e : Entry) (sound : IsSound s) (permitted : refusal s e ≡ None) where
  rotated_touched : (a : Act) (u : Name) → is_rotated a (User u) ≡ true → touched e a ≡ Some u
  rotated_touched (Rotate c) u h = ap user_of_scope (scope-is c (User u) h)
  rotated_touched _ u h = absurd (false≢true h)

  brought_touched : (a : Act) (u : Name) → option_map_or (λ v. same_name v u) (brought_user e a) false ≡ true → touched e a ≡ Some u
  brought_touched (Found seal title) u h = ap (λ n. Some n) (same_name-is e.user u h)
  brought_touched (AddMember v key seal) u h = ap (λ n. Some n) (same_name-is v u h)
  brought_touched (AdmitMember v key seal by_key proof) u h = ap (λ n. Some n) (same_name-is v u h)
  brought_touched _ u h = absurd (false≢true h)

  -- who is listed by the act, and wasn't before, is brought in
  newly_listed : (u : Name) → lists_user (effected s e) u ≡ true → lists_user s u ≡ false → touched e e.act ≡ Some u
  newly_listed u listed before = go (only_brought_in s e permitted u (subst (λ (ms : List Member). list_any (λ m. same_name m.user u) ms ≡ true) (sym members) listed))
    where
      members : (after s e).members ≡ (effected s e).members
      members = ap (λ (v : State). v.members) (after_is s e permitted ∙ lined-is (effected s e) e)

      go : (lists_user s u ≡ true) ⊎ (brings_user e u ≡ true) → touched e e.act ≡ Some u
      go (inl was) = absurd (false≢true (sym before ∙ was))
      go (inr brought) = brought_touched e.act u brought

  -- a user's scope that lacks a clean key by the act alone
  module _ (u : Name) (wants : wants_key (effected s e) (User u) ≡ true) (before : wants_key s (User u) ≡ false) where
    had : (is_without_key (key_table s) (User u) ≡ false) × (list_any (is_tainted (key_table s)) (keys_of (key_table s) (User u)) ≡ false)
    had = or_parts (is_without_key (key_table s) (User u)) (list_any (is_tainted (key_table s)) (keys_of (key_table s) (User u))) before

    abbrev is_users : KeyId → Bool
    is_users k = same_scope k.scope (User u)

    no_device : (k : KeyId) → is_users k ≡ true → is_device k.scope ≡ false
    no_device k h = ap is_device (scope-is k.scope (User u) h)

    not_gone : is_without_key (key_table (effected s e)) (User u) ≡ true → ⊥
    not_gone h =
        let k = any_of is_users (all_keys s) (from_not (list_any is_users (all_keys s)) had.0) in
        let there = moved_key s (effected s e) (sym (untouched s e e.act).currents) k.0 (no_device k.0 k.2) k.1 in
        false≢true (sym (not-true (list_any is_users (all_keys (effected s e))) h) ∙ any_in is_users (all_keys (effected s e)) k.0 there k.2)

    tainted_now : list_any (is_tainted (key_table (effected s e))) (keys_of (key_table (effected s e)) (User u)) ≡ true → touched e e.act ≡ Some u
    tainted_now h =
        let k = any_of (is_tainted (key_table (effected s e))) (keys_of (key_table (effected s e)) (User u)) h in
        let f = of_filter is_users k.0 (all_keys (effected s e)) k.1 in
        let there = in_filter is_users k.0 (all_keys s) (moved_key (effected s e) s (untouched s e e.act).currents k.0 (no_device k.0 f.1) f.0) f.1 in
        taints_touched s e sound permitted k.0 u (scope-is k.0.scope (User u) f.1) (none_met (is_tainted (key_table s)) (keys_of (key_table s) (User u)) k.0 had.1 there) k.2

    lost_touched : touched e e.act ≡ Some u
    lost_touched = go (either (is_without_key (key_table (effected s e)) (User u)) (list_any (is_tainted (key_table (effected s e))) (keys_of (key_table (effected s e)) (User u))) wants)
      where
        go : (is_without_key (key_table (effected s e)) (User u) ≡ true) ⊎ (list_any (is_tainted (key_table (effected s e))) (keys_of (key_table (effected s e)) (User u)) ≡ true) → touched e e.act ≡ Some u
        go (inl h) = absurd (not_gone h)
        go (inr h) = tainted_now h

  -- each planned user is touched
  planned_touched : (u : Name) → IsWanted s (effected s e) e (User u) → touched e e.act ≡ Some u
  planned_touched u w = go (either (is_rotated e.act (User u)) (wants_key (effected s e) (User u) && not (owes s (User u))) w.wanted)
    where
      unlisted_before : is_live (key_table s) (User u) ≡ false → lists_user s u ≡ false
      unlisted_before h = by_cases (lists_user s u) (λ listed. absurd (false≢true (sym h ∙ live_user s u listed))) (λ absent. absent)

      owed_none : wants_key (effected s e) (User u) ≡ true → owes s (User u) ≡ false → touched e e.act ≡ Some u
      owed_none wants none =
          by_cases (is_live (key_table s) (User u))
          (λ live. lost_touched u wants (by_cases (wants_key s (User u)) (λ was. absurd (false≢true (sym none ∙ and_from (is_live (key_table s) (User u)) (wants_key s (User u)) live was))) (λ clean. clean)))
          (λ new. newly_listed u (user_listed (effected s e) u w.live) (unlisted_before new))

      go : (is_rotated e.act (User u) ≡ true) ⊎ ((wants_key (effected s e) (User u) && not (owes s (User u))) ≡ true) → touched e e.act ≡ Some u
      go (inl h) = rotated_touched e.act u h
      go (inr h) = let parts = and_parts (wants_key (effected s e) (User u)) (not (owes s (User u))) h in owed_none parts.0 (not-true (owes s (User u)) parts.1)

  module _ (then_sound : IsSound (effected s e)) where
    abbrev t : State
    t = effected s e

    abbrev planned : Scope → Bool
    planned c = is_planned s t e c

    user_touched : (m : Member) → IsIn m t.members → planned (User m.user) ≡ true → touched e e.act ≡ Some m.user
    user_touched m i h =
        planned_touched m.user
        (is_wanted s t e (User m.user)
        (in-right (team_scopes t) (map (λ (r : Name). Role r) t.roles ++ (map (λ (m : Member). User m.user) t.members ++ map scope_of_device (filter (λ d. d.listed) t.devices))) (User m.user)
        (in-right (map (λ (r : Name). Role r) t.roles) (map (λ (m : Member). User m.user) t.members ++ map scope_of_device (filter (λ d. d.listed) t.devices)) (User m.user)
        (in-left (map (λ (m : Member). User m.user) t.members) (map scope_of_device (filter (λ d. d.listed) t.devices)) (User m.user)
        (in-map (λ (m : Member). User m.user) m t.members i)))) h)

    one_name : (a b : Name) → touched e e.act ≡ Some a → touched e e.act ≡ Some b → a ≡ b
    one_name a b h k = let same : ◌≡◌ {A = Option Name} (Some a) (Some b) = sym h ∙ k in cc

    -- of members in order at most one is planned
    one_user : (ms : List Member) → IsAscending (by_names (λ m. m.user)) ms → ((m : Member) → IsIn m ms → planned (User m.user) ≡ true → touched e e.act ≡ Some m.user)
        → length (filter planned (map (λ (m : Member). User m.user) ms)) ≤ 1
    one_user [] up each = omega arith
    one_user (m ∷ ms) up each = by_cases (planned (User m.user)) first (λ h. later h (one_user ms up.1 (λ n i. each n (inr i))))
      where
        rest : List Scope
        rest = filter planned (map (λ (m : Member). User m.user) ms)

        others : planned (User m.user) ≡ true → (c : Scope) → IsIn c (map (λ (m : Member). User m.user) ms) → planned c ≡ false
        others h c i = by_cases (planned c) twice (λ not_planned. not_planned)
          where
            n : (n : Member) × IsIn n ms × (User n.user ≡ c)
            n = of-map (λ (m : Member). User m.user) c ms i

            twice : planned c ≡ true → planned c ≡ false
            twice again =
                let same : m.user ≡ n.0.user = one_name m.user n.0.user (each m (inl refl) h) (each n.0 (inr n.1) (subst (λ d. planned d ≡ true) (sym n.2) again)) in
                let less = all_at (λ (y : Member). by_names (λ m. m.user) m y ≡ true) ms up.0 n.0 n.1 in
                absurd (false≢true (sym (name_lt-irrefl n.0.user) ∙ subst (λ a. by_names (λ (a : Name). a) a n.0.user ≡ true) same less))

        first : planned (User m.user) ≡ true → length (filter planned (User m.user ∷ map (λ (m : Member). User m.user) ms)) ≤ 1
        first h =
            let none : rest ≡ [] = filter-none planned (map (λ (m : Member). User m.user) ms) (all_of (λ c. planned c ≡ false) (map (λ (m : Member). User m.user) ms) (others h)) in
            subst (λ (l : List Scope). length (cond (planned (User m.user)) (User m.user ∷ l) l) ≤ 1) (sym none) (subst (λ b. length (cond b (User m.user ∷ []) []) ≤ 1) (sym h) (omega arith))

        later : planned (User m.user) ≡ false → length rest ≤ 1 → length (filter planned (User m.user ∷ map (λ (m : Member). User m.user) ms)) ≤ 1
        later h few = subst (λ b. length (cond b (User m.user ∷ rest) rest) ≤ 1) (sym h) few

    few_team : length (filter planned (team_scopes t)) ≤ 1
    few_team = go (is_empty_state t) (length-fewer planned (team_scopes t)) refl
      where
        go : (b : Bool) → length (filter planned (team_scopes t)) ≤ length (team_scopes t) → is_empty_state t ≡ b → length (filter planned (team_scopes t)) ≤ 1
        go b less is = let size = most b is in omega (arith, less, size)
          where
            most : (b : Bool) → is_empty_state t ≡ b → length (team_scopes t) ≤ 1
            most true is = subst (λ b. length (cond b [] (Team ∷ [])) ≤ 1) (sym is) (omega arith)
            most false is = subst (λ b. length (cond b [] (Team ∷ [])) ≤ 1) (sym is) (omega arith)

    few_roles : length (filter planned (map (λ (r : Name). Role r) t.roles)) ≤ 32
    few_roles =
        let less = length-fewer planned (map (λ (r : Name). Role r) t.roles) in
        let size = length-of-map (λ (r : Name). Role r) t.roles in
        omega (arith, less, size, then_sound.few_roles)

    no_devices : filter planned (map scope_of_device (filter (λ d. d.listed) t.devices)) ≡ []
    no_devices =
        filter-none planned (map scope_of_device (filter (λ d. d.listed) t.devices))
        (all_of (λ c. planned c ≡ false) (map scope_of_device (filter (λ d. d.listed) t.devices))
        (λ c i. let d = of-map scope_of_device c (filter (λ d. d.listed) t.devices) i in subst (λ c. planned c ≡ false) d.2 refl))

    few_scopes : length (filter planned (live_scopes t)) ≤ most_planned_news
    few_scopes =
        let roles = map (λ (r : Name). Role r) t.roles in
        let users = map (λ (m : Member). User m.user) t.members in
        let devices = map scope_of_device (filter (λ d. d.listed) t.devices) in
        let one = filter-append planned (team_scopes t) (roles ++ (users ++ devices)) in
        let two = filter-append planned roles (users ++ devices) in
        let three = filter-append planned users devices in
        let size_one : length (filter planned (live_scopes t)) ≡ length (filter planned (team_scopes t)) + length (filter planned (roles ++ (users ++ devices)))
        = ap (λ (l : List Scope). length l) one ∙ length-append (filter planned (team_scopes t)) (filter planned (roles ++ (users ++ devices))) in
        let size_two : length (filter planned (roles ++ (users ++ devices))) ≡ length (filter planned roles) + length (filter planned (users ++ devices))
        = ap (λ (l : List Scope). length l) two ∙ length-append (filter planned roles) (filter planned (users ++ devices)) in
        let size_three : length (filter planned (users ++ devices)) ≡ length (filter planned users) + length (filter planned devices)
        = ap (λ (l : List Scope). length l) three ∙ length-append (filter planned users) (filter planned devices) in
        let none : length (filter planned devices) ≡ 0 = ap (λ (l : List Scope). length l) no_devices in
        omega (arith, size_one, size_two, size_three, none, few_team, few_roles, one_user t.members then_sound.tables.members user_touched)

    pub few_planned : length (plan_scopes s t e) ≤ most_planned_news
    few_planned = go (lists_device t e.user e.device)
      where
        go : (b : Bool) → length (cond b (filter planned (live_scopes t)) []) ≤ most_planned_news
        go true = few_scopes
        go false = omega arith
