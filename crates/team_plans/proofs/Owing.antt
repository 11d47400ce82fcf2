-- What a state without debts doesn't owe, and the pairs that lack a box, by their contents.
use Rattle.std.proofs.Common.{◌≡◌, Bool, true, false, not, ◌&&◌, ◌||◌, [], ◌++◌, filter, flat_map, refl, subst, inl, inr, ◌⊎◌}
use Rattle.std.specs.List.{list_any}
use Rattle.std.proofs.lemmas.Bool.{and_parts, false_from_ne_true, not-true}
use Rattle.team_sets.specs.Members.{IsIn}
use Rattle.team_sets.proofs.OrderLeast.{in_filter, of_filter}
use Rattle.team_sets.proofs.Pasts.{any_of}
use Rattle.tg_text.specs.declared.keys.KeyId.{KeyId}
use Rattle.tg_text.specs.declared.keys.Scope.{Scope}
use Rattle.key_reach.specs.declared.debt.Debt.TheVariants.{NoKey, Tainted}
use Rattle.key_reach.specs.Debts.{debts, device_names, is_without_key, no_keys, tainted_of, unreached_of}
use Rattle.key_reach.specs.Keys.{Table, clean, current_keys, has_box, is_live, is_tainted, keys_of, lacks_box, plans}
use Rattle.key_reach.proofs.Currents.{in-flat, of-flat}
use Rattle.key_reach.proofs.Meeting.{in-has-scope}
use Rattle.key_reach.proofs.Members.{in-left, in-right}
use Rattle.key_reach.proofs.Numbered.{in-map, of-map}
use Rattle.key_laws.proofs.Lacking.{no_member, IsLacking}
use Rattle.team_model.specs.KeyLines.{wants_key}
use Rattle.team_model.specs.KeyTables.{key_table}
use Rattle.team_model.specs.State.{State}
use Rattle.team_plans.specs.Plans.{lacking, lacks_by_content, owes}

pub either : (a b : Bool) → (a || b) ≡ true → (a ≡ true) ⊎ (b ≡ true)
either true b h = inl refl
either false b h = inr h

module _ (t : Table) where
  -- a live scope without a key is owed one
  pub key_owed : (c : Scope) → is_live t c ≡ true → is_without_key t c ≡ true → IsIn (NoKey c) (debts t)
  key_owed c live without =
      in-left (no_keys t) (tainted_of t (current_keys t) ++ flat_map (unreached_of t (device_names t)) (current_keys t)) (NoKey c)
      (in-map (λ (s : Scope). NoKey s) c (filter (is_without_key t) t.scopes) (in_filter (is_without_key t) c t.scopes (in-has-scope t.scopes c live) without))

  -- a tainted key of a live scope is to be replaced
  pub taint_owed : (c : Scope) (k : KeyId) → is_live t c ≡ true → IsIn k (keys_of t c) → is_tainted t k ≡ true → IsIn (Tainted k) (debts t)
  taint_owed c k live i tainted =
      in-right (no_keys t) (tainted_of t (current_keys t) ++ flat_map (unreached_of t (device_names t)) (current_keys t)) (Tainted k)
      (in-left (tainted_of t (current_keys t)) (flat_map (unreached_of t (device_names t)) (current_keys t)) (Tainted k)
      (in-map (λ (j : KeyId). Tainted j) k (filter (is_tainted t) (current_keys t))
      (in_filter (is_tainted t) k (current_keys t) (in-flat (keys_of t) t.scopes c k (in-has-scope t.scopes c live) i) tainted)))

  -- a pair that lacks a box, and the list of pairs by their contents
  pub of_by_content : (p : KeyId × KeyId) → IsIn p (lacks_by_content t) → IsLacking t p
  of_by_content p i =
      let r = of-flat (lacking t) (clean t) p i in
      let q = of-map (λ to. (to, r.0)) p (filter (λ to. lacks_box t to r.0) (clean t)) r.2 in
      let f = of_filter (λ to. lacks_box t to r.0) q.0 (clean t) q.1 in
      let tests = and_parts (plans t q.0 r.0) (not (has_box t.boxes q.0 r.0)) f.1 in
      subst (IsLacking t) q.2 (record { to = f.0; of = r.1; planned = tests.0; unboxed = not-true (has_box t.boxes q.0 r.0) tests.1 })

  pub in_by_content : (p : KeyId × KeyId) → IsLacking t p → IsIn p (lacks_by_content t)
  in_by_content p is =
      in-flat (lacking t) (clean t) p.1 p is.of
      (in-map (λ to. (to, p.1)) p.0 (filter (λ to. lacks_box t to p.1) (clean t)) (in_filter (λ to. lacks_box t to p.1) p.0 (clean t) is.to (λ i. is.planned i && not (is.unboxed i))))

-- a state without debts owes no key
pub owes_none : (s : State) → debts (key_table s) ≡ [] → (c : Scope) → owes s c ≡ false
owes_none s none c = false_from_ne_true (owes s c) (λ h.
    let parts = and_parts (is_live (key_table s) c) (wants_key s c) h in
    go parts.0 (either (is_without_key (key_table s) c) (list_any (is_tainted (key_table s)) (keys_of (key_table s) c)) parts.1))
  where
    go : is_live (key_table s) c ≡ true → (is_without_key (key_table s) c ≡ true) ⊎ (list_any (is_tainted (key_table s)) (keys_of (key_table s) c) ≡ true) → ⊥
    go live (inl without) = no_member (debts (key_table s)) (NoKey c) none (key_owed (key_table s) c live without)
    go live (inr tainted) =
        let k = any_of (is_tainted (key_table s)) (keys_of (key_table s) c) tainted in
        no_member (debts (key_table s)) (Tainted k.0) none (taint_owed (key_table s) c k.0 live k.1 k.2)
