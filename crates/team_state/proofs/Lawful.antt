-- The key tables of an ordered state stand in order.
use Rattle.std.proofs.Common.{◌≡◌, Bool, true, false, List, [], ◌∷◌, map, find, Some, refl, sym, ◌∙◌, ap, subst, inl, inr}
use Rattle.std.specs.List.{AllByRecursion, IsDistinct}
use Rattle.std.specs.List.Sorted.{IsStrictlySortedBy}
use Rattle.std.specs.Ordering.{is_eq}
use Rattle.std.proofs.lemmas.Bool.{false≢true}
use Rattle.std.specs.declared.cmp.Ordering.TheVariants.{Less}
use Rattle.tg_text.specs.Order.{scope_cmp}
use Rattle.tg_text.specs.declared.keys.Scope.{Scope}
use Rattle.tg_text.specs.declared.keys.KeyId.{KeyId}
use Rattle.key_reach.specs.Keys.{same_scope}
use Rattle.key_reach.proofs.Meeting.{scope-decides, scope-is}
use Rattle.team_sets.specs.Members.{IsIn}
use Rattle.team_model.specs.State.{State}
use Rattle.team_model.specs.KeyTables.{all_keys, current_key, live_scopes}
use Rattle.team_state.specs.Kept.{IsOrdered}
use Rattle.team_state.proofs.Placed.{all-weaker}
use Rattle.team_state.proofs.Ascending.{keys-ascend, scope_of_key, scopes-ascend}
use Rattle.team_state.proofs.Scopes.{itself}

map_itself : (xs : List Scope) → map itself xs ≡ xs
map_itself [] = refl
map_itself (x ∷ xs) = ap (λ rest. x ∷ rest) (map_itself xs)

distinct_from_order : (xs : List Scope) → IsStrictlySortedBy scope_cmp xs → IsDistinct same_scope xs
unfolding IsStrictlySortedBy IsDistinct
distinct_from_order [] up = tt
distinct_from_order (x ∷ xs) up = (all-weaker (λ y. scope_cmp x y ≡ Less) (λ y. same_scope x y ≡ false) (λ y e. ap is_eq e) xs up.0, distinct_from_order xs up.1)

-- a key of the list has a scope that no other key of the list has
other_scope : (x : Scope) (ks : List KeyId) (k : KeyId) → AllByRecursion (λ y. same_scope x y ≡ false) (map scope_of_key ks) → IsIn k ks → same_scope x k.scope ≡ false
other_scope x [] k all i = absurd i
other_scope x (j ∷ js) k all (inl e) = subst (λ (i : KeyId). same_scope x i.scope ≡ false) e all.0
other_scope x (j ∷ js) k all (inr i) = other_scope x js k all.1 i

-- so it is the one that a search for its scope finds
found_key : (ks : List KeyId) → IsDistinct same_scope (map scope_of_key ks) → (c : Scope) (k : KeyId) → IsIn k ks → same_scope k.scope c ≡ true → find (λ j. same_scope j.scope c) ks ≡ Some k
unfolding IsDistinct
found_key [] apart c k i h = absurd i
found_key (j ∷ js) apart c k (inl e) h = let here : same_scope j.scope c ≡ true = ap (λ (i : KeyId). same_scope i.scope c) e ∙ h in rw here (ap Some e)
found_key (j ∷ js) apart c k (inr i) h = go (same_scope j.scope c) refl (found_key js apart.1 c k i h)
  where
    go : (b : Bool) → same_scope j.scope c ≡ b → find (λ i. same_scope i.scope c) js ≡ Some k → find (λ i. same_scope i.scope c) (j ∷ js) ≡ Some k
    go false e more = rw e more
    go true e more =
        absurd (false≢true (sym (other_scope j.scope js k apart.0 i) ∙ (scope-decides j.scope k.scope).1 (scope-is j.scope c e ∙ sym (scope-is k.scope c h))))

module _ (s : State) where
  -- the order of the tables of an ordered state
  pub key-scopes-ascend : IsOrdered s → IsStrictlySortedBy scope_cmp (live_scopes s)
  key-scopes-ascend up = subst (λ xs. IsStrictlySortedBy scope_cmp xs) (map_itself (live_scopes s)) (scopes-ascend s up)

  pub key-one-each : IsOrdered s → IsDistinct same_scope (map scope_of_key (all_keys s))
  key-one-each up = distinct_from_order (map scope_of_key (all_keys s)) (keys-ascend s up)

  -- a current key is the one of its scope
  pub key-only : IsOrdered s → (c : Scope) (k : KeyId) → IsIn k (all_keys s) → same_scope k.scope c ≡ true → current_key s c ≡ Some k
  key-only up c k i h = found_key (all_keys s) (key-one-each up) c k i h
