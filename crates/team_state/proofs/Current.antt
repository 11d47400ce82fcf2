-- The key that a search for a scope finds is the only one of the scope.
use Rattle.std.proofs.Common.{◌≡◌, ◌+◌, Bool, true, false, ◌&&◌, cond, List, [], ◌∷◌, filter, find, Option, Some, None, refl, sym, ◌∙◌, ap, subst}
use Rattle.std.specs.Option.{option_map_or}
use Rattle.std.proofs.lemmas.Bool.{false≢true, and_from, and_parts}
use Rattle.team_sets.specs.Closure.{has}
use Rattle.team_sets.specs.Members.{IsIn}
use Rattle.team_sets.proofs.Agree.{same_answer}
use Rattle.team_sets.proofs.Decisions.{find_none, find_of}
use Rattle.team_sets.proofs.OrderLeast.{in_filter, of_filter}
use Rattle.tg_text.specs.declared.keys.KeyId.{KeyId}
use Rattle.key_reach.specs.Keys.{current_keys, is_live, keys_of, same_key, same_scope}
use Rattle.key_reach.proofs.Currents.{has-in-key, has-in-scope, in-flat, in-has-key, of-flat}
use Rattle.key_reach.proofs.Equal.{key-is, key-same}
use Rattle.key_reach.proofs.Meeting.{in-has-scope, scope-is, scope-same}
use Rattle.team_model.specs.KeyLines.{after_last}
use Rattle.team_model.specs.KeyTables.{all_keys, current_key, key_table, live_scopes}
use Rattle.team_model.specs.State.{State}

-- of the keys that pass a test the first is that which is found
pub after-found : (p : KeyId → Bool) (ks : List KeyId) → after_last (filter p ks) ≡ option_map_or (λ k. k.generation + 1) (find p ks) 0
after-found p [] = refl
after-found p (k ∷ ks) = go (p k) (after-found p ks)
  where
    go : (b : Bool) → after_last (filter p ks) ≡ option_map_or (λ k. k.generation + 1) (find p ks) 0
        → after_last (cond b (k ∷ filter p ks) (filter p ks)) ≡ option_map_or (λ k. k.generation + 1) (cond b (Some k) (find p ks)) 0
    go true more = refl
    go false more = more

module _ (s : State) where
  pub next-is : (c : _) (o : Option KeyId) → current_key s c ≡ o → after_last (keys_of (key_table s) c) ≡ option_map_or (λ k. k.generation + 1) o 0
  next-is c o e = after-found (λ k. same_scope k.scope c) (all_keys s) ∙ ap (λ (p : Option KeyId). option_map_or (λ k. k.generation + 1) p 0) e

  there : (k : KeyId) → IsIn k (all_keys s) → is_live (key_table s) k.scope ≡ true → has same_key (current_keys (key_table s)) k ≡ true
  there k j live =
      has-in-key (current_keys (key_table s)) k
      (in-flat (keys_of (key_table s)) (live_scopes s) k.scope k (in-has-scope (live_scopes s) k.scope live)
      (in_filter (λ i. same_scope i.scope k.scope) k (all_keys s) j (scope-same k.scope)))

  here : (k : KeyId) → has same_key (current_keys (key_table s)) k ≡ true → IsIn k (all_keys s) × (is_live (key_table s) k.scope ≡ true)
  here k h =
      let r = of-flat (keys_of (key_table s)) (live_scopes s) k (in-has-key (current_keys (key_table s)) k h) in
      let f = of_filter (λ i. same_scope i.scope r.0) k (all_keys s) r.2 in
      (f.0, subst (λ c. is_live (key_table s) c ≡ true) (sym (scope-is k.scope r.0 f.1)) (has-in-scope (live_scopes s) r.0 r.1))

  pub current-found : (k c : KeyId) → current_key s k.scope ≡ Some c → ((j : KeyId) → IsIn j (all_keys s) → same_scope j.scope k.scope ≡ true → current_key s k.scope ≡ Some j)
      → has same_key (current_keys (key_table s)) k ≡ (same_key c k && is_live (key_table s) k.scope)
  current-found k c e only = same_answer (has same_key (current_keys (key_table s)) k) (same_key c k && is_live (key_table s) k.scope) forth back
    where
      forth : has same_key (current_keys (key_table s)) k ≡ true → (same_key c k && is_live (key_table s) k.scope) ≡ true
      forth h =
          let both = here k h in
          let found : Some c ≡ Some k = sym e ∙ only k both.0 (scope-same k.scope) in
          let is : c ≡ k = cc in
          and_from (same_key c k) (is_live (key_table s) k.scope) (subst (λ j. same_key c j ≡ true) is (key-same c)) both.1

      back : (same_key c k && is_live (key_table s) k.scope) ≡ true → has same_key (current_keys (key_table s)) k ≡ true
      back h =
          let both = and_parts (same_key c k) (is_live (key_table s) k.scope) h in
          there k (subst (λ j. IsIn j (all_keys s)) (key-is c k both.0) (find_of (λ j. same_scope j.scope k.scope) (all_keys s) c e).0) both.1

  pub current-absent : (k : KeyId) → current_key s k.scope ≡ None → has same_key (current_keys (key_table s)) k ≡ false
  current-absent k e = same_answer (has same_key (current_keys (key_table s)) k) false forth (λ h. absurd (false≢true h))
    where
      forth : has same_key (current_keys (key_table s)) k ≡ true → false ≡ true
      forth h = sym (find_none (λ j. same_scope j.scope k.scope) (all_keys s) e k (here k h).0) ∙ scope-same k.scope
