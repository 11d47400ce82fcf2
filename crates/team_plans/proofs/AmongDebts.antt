-- What a scope owes is told by the debts of its state.
use Rattle.std.proofs.Common.{◌≡◌, Bool, true, false, ◌++◌, filter, flat_map, sym, ◌∙◌, ap, subst, inl, inr, ◌⊎◌, ◌↔◌}
use Rattle.std.specs.List.{list_any}
use Rattle.std.proofs.lemmas.Bool.{and_from, and_parts, false≢true, or_left, or_right}
use Rattle.team_sets.specs.Members.{IsIn}
use Rattle.team_sets.specs.Names.{Name}
use Rattle.team_sets.proofs.Agree.{any_in}
use Rattle.team_sets.proofs.OrderLeast.{in_filter, of_filter}
use Rattle.team_sets.proofs.Pasts.{any_of}
use Rattle.acts.specs.declared.entry.Entry.{Entry}
use Rattle.tg_text.specs.declared.keys.KeyId.{KeyId}
use Rattle.tg_text.specs.declared.keys.Scope.{Scope}
use Rattle.key_reach.specs.declared.debt.Debt.{Debt}
use Rattle.key_reach.specs.declared.debt.Debt.TheVariants.{NoKey, Tainted, Unreached}
use Rattle.key_reach.specs.Debts.{debts, device_names, is_unreached, is_without_key, no_keys, tainted_of, unreached_of}
use Rattle.key_reach.specs.Keys.{Table, current_keys, is_device, is_live, is_tainted, keys_of, same_scope}
use Rattle.key_reach.proofs.Currents.{has-in-scope, of-flat}
use Rattle.key_reach.proofs.Meeting.{scope-is}
use Rattle.key_reach.proofs.Members.{in-either}
use Rattle.key_reach.proofs.Numbered.{of-map}
use Rattle.team_model.specs.KeyLines.{wants_key}
use Rattle.team_model.specs.KeyTables.{all_keys, key_table}
use Rattle.team_model.specs.State.{State}
use Rattle.team_reducer.proofs.Untouched.{untouched}
use Rattle.team_plans.specs.OwingLaws.{IsAmongDebts}
use Rattle.team_plans.specs.Plans.{effected, owes}
use Rattle.team_plans.proofs.FewKeys.{moved_key}
use Rattle.team_plans.proofs.Owing.{either, key_owed, taint_owed}
use Rattle.team_plans.proofs.StateTables.{of_currents}

abbrev is_no_key : Debt → Bool
is_no_key (NoKey c) = true
is_no_key _ = false

abbrev is_taint : Debt → Bool
is_taint (Tainted k) = true
is_taint _ = false

abbrev scope_in : Debt → Scope → Scope
scope_in (NoKey c) d = c
scope_in _ d = d

abbrev key_in : Debt → KeyId → KeyId
key_in (Tainted k) j = k
key_in _ j = j

module _ (t : Table) where
  abbrev ThreeKinds : Debt → Type 0
  ThreeKinds x = IsIn x (no_keys t) ⊎ (IsIn x (tainted_of t (current_keys t)) ⊎ IsIn x (flat_map (unreached_of t (device_names t)) (current_keys t)))

  kinds : (x : Debt) → IsIn x (debts t) → ThreeKinds x
  kinds x i = go (in-either (no_keys t) (tainted_of t (current_keys t) ++ flat_map (unreached_of t (device_names t)) (current_keys t)) x i)
    where
      go : IsIn x (no_keys t) ⊎ IsIn x (tainted_of t (current_keys t) ++ flat_map (unreached_of t (device_names t)) (current_keys t)) → ThreeKinds x
      go (inl j) = inl j
      go (inr j) = inr (in-either (tainted_of t (current_keys t)) (flat_map (unreached_of t (device_names t)) (current_keys t)) x j)

  of_no_keys : (x : Debt) → IsIn x (no_keys t) → (c : Scope) × (NoKey c ≡ x) × (is_live t c ≡ true) × (is_without_key t c ≡ true)
  of_no_keys x i =
      let r = of-map (λ (s : Scope). NoKey s) x (filter (is_without_key t) t.scopes) i in
      let f = of_filter (is_without_key t) r.0 t.scopes r.1 in
      (r.0, r.2, has-in-scope t.scopes r.0 f.0, f.1)

  of_taints : (x : Debt) → IsIn x (tainted_of t (current_keys t)) → (k : KeyId) × (Tainted k ≡ x) × IsIn k (current_keys t) × (is_tainted t k ≡ true)
  of_taints x i =
      let r = of-map (λ (k : KeyId). Tainted k) x (filter (is_tainted t) (current_keys t)) i in
      let f = of_filter (is_tainted t) r.0 (current_keys t) r.1 in
      (r.0, r.2, f.0, f.1)

  of_unreached : (x : Debt) → IsIn x (flat_map (unreached_of t (device_names t)) (current_keys t)) → (k : KeyId) × (d : Name) × (Unreached k d ≡ x)
  of_unreached x i =
      let r = of-flat (unreached_of t (device_names t)) (current_keys t) x i in
      let d = of-map (λ (d : Name). Unreached r.0 d) x (filter (is_unreached t r.0) (device_names t)) r.2 in
      (r.0, d.0, d.2)

  no_key_debt : (c : Scope) → IsIn (NoKey c) (debts t) → (is_live t c ≡ true) × (is_without_key t c ≡ true)
  no_key_debt c i = go (kinds (NoKey c) i)
    where
      go : ThreeKinds (NoKey c) → (is_live t c ≡ true) × (is_without_key t c ≡ true)
      go (inl j) =
          let n = of_no_keys (NoKey c) j in
          let is : n.0 ≡ c = ap (λ x. scope_in x c) n.1 in
          (subst (λ d. is_live t d ≡ true) is n.2, subst (λ d. is_without_key t d ≡ true) is n.3)
      go (inr (inl j)) = absurd (false≢true (ap is_no_key (of_taints (NoKey c) j).1))
      go (inr (inr j)) = absurd (false≢true (ap is_no_key (of_unreached (NoKey c) j).2))

  taint_debt : (k : KeyId) → IsIn (Tainted k) (debts t) → IsIn k (current_keys t) × (is_tainted t k ≡ true)
  taint_debt k i = go (kinds (Tainted k) i)
    where
      go : ThreeKinds (Tainted k) → IsIn k (current_keys t) × (is_tainted t k ≡ true)
      go (inl j) = absurd (false≢true (ap is_taint (of_no_keys (Tainted k) j).1))
      go (inr (inl j)) =
          let n = of_taints (Tainted k) j in
          let is : n.0 ≡ k = ap (λ x. key_in x k) n.1 in
          (subst (λ l. IsIn l (current_keys t)) is n.2, subst (λ l. is_tainted t l ≡ true) is n.3)
      go (inr (inr j)) = absurd (false≢true (ap is_taint (of_unreached (Tainted k) j).2))

module _ (s : State) (e : Entry) (c : Scope) (other : is_device c ≡ false) where
  abbrev is_its : KeyId → Bool
  is_its k = same_scope k.scope c

  its_other : (k : KeyId) → is_its k ≡ true → is_device k.scope ≡ false
  its_other k h = ap is_device (scope-is k.scope c h) ∙ other

  moved : (p q : State) → p.currents ≡ q.currents → (k : KeyId) → IsIn k (keys_of (key_table p) c) → IsIn k (keys_of (key_table q) c)
  moved p q same k i = let f = of_filter is_its k (all_keys p) i in in_filter is_its k (all_keys q) (moved_key p q same k (its_other k f.1) f.0) f.1

  owed_debt : owes s c ≡ true → IsAmongDebts s (effected s e) c
  owed_debt h = go (either (is_without_key (key_table s) c) (list_any (is_tainted (key_table s)) (keys_of (key_table s) c)) parts.1)
    where
      parts : (is_live (key_table s) c ≡ true) × (wants_key s c ≡ true)
      parts = and_parts (is_live (key_table s) c) (wants_key s c) h

      go : (is_without_key (key_table s) c ≡ true) ⊎ (list_any (is_tainted (key_table s)) (keys_of (key_table s) c) ≡ true) → IsAmongDebts s (effected s e) c
      go (inl without) = inl (key_owed (key_table s) c parts.0 without)
      go (inr tainted) =
          let k = any_of (is_tainted (key_table s)) (keys_of (key_table s) c) tainted in
          inr (k.0, moved s (effected s e) (sym (untouched s e e.act).currents) k.0 k.1, taint_owed (key_table s) c k.0 parts.0 k.1 k.2)

  debt_owed : IsAmongDebts s (effected s e) c → owes s c ≡ true
  debt_owed (inl i) =
      let d = no_key_debt (key_table s) c i in
      and_from (is_live (key_table s) c) (wants_key s c) d.0 (or_left (is_without_key (key_table s) c) (list_any (is_tainted (key_table s)) (keys_of (key_table s) c)) d.1)
  debt_owed (inr k) =
      let d = taint_debt (key_table s) k.0 k.2 in
      let its = of_filter is_its k.0 (all_keys (effected s e)) k.1 in
      let live = subst (λ b. is_live (key_table s) b ≡ true) (scope-is k.0.scope c its.1) (of_currents (key_table s) k.0 d.0).1 in
      and_from (is_live (key_table s) c) (wants_key s c) live
      (or_right (is_without_key (key_table s) c) (list_any (is_tainted (key_table s)) (keys_of (key_table s) c))
      (any_in (is_tainted (key_table s)) (keys_of (key_table s) c) k.0 (moved (effected s e) s (untouched s e e.act).currents k.0 k.1) d.1))

pub owes_as_debts : (s : State) (e : Entry) (c : Scope) → is_device c ≡ false → (owes s c ≡ true) ↔ IsAmongDebts s (effected s e) c
owes_as_debts s e c other = (owed_debt s e c other, debt_owed s e c other)
