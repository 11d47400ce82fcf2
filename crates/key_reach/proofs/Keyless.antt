-- What is owed where devices alone have keys.
use Rattle.std.proofs.Common.{◌≡◌, Bool, true, false, not, ◌&&◌, List, [], ◌∷◌, map, filter, flat_map, refl, sym, ◌∙◌, ap, append-nil, subst, inl, inr, ◌⊎◌}
use Rattle.std.proofs.lemmas.Bool.{false_from_ne_true, false≢true, and_parts, not-true}
use Rattle.team_sets.specs.Names.{Name}
use Rattle.team_sets.specs.Members.{IsIn}
use Rattle.team_sets.specs.Closure.{has, Reaches, is_given, follows}
use Rattle.team_sets.proofs.Agree.{any_in}
use Rattle.team_sets.proofs.Closures.{closure-reaches}
use Rattle.team_sets.proofs.Lists.{filter_alike}
use Rattle.team_sets.proofs.OrderLeast.{in_filter, of_filter}
use Rattle.tg_text.specs.declared.keys.Scope.{Scope}
use Rattle.tg_text.specs.declared.keys.Scope.TheVariants.{Team, Role, User, Device}
use Rattle.tg_text.specs.declared.keys.KeyId.{KeyId}
use Rattle.tg_text.specs.declared.keys.BoxLine.{BoxLine}
use Rattle.key_reach.specs.declared.debt.Debt.TheVariants.{NoKey}
use Rattle.key_reach.specs.DebtLaws.{HasDeviceKeysAlone}
use Rattle.key_reach.specs.Debts.{debts, device_names, is_unreached, is_without_key, no_keys, tainted_of, unreached_of}
use Rattle.key_reach.specs.Keys.{Table, box_arrows, current_keys, is_device, is_entitled, is_live, is_tainted, keys_of, leaked, reach, same_key, same_scope, scope_arrows}
use Rattle.key_reach.specs.Laws.{IsKeyTable, may_lead}
use Rattle.key_reach.proofs.Currents.{has-in-scope, of-flat}
use Rattle.key_reach.proofs.Equal.{key-decides}
use Rattle.key_reach.proofs.Meeting.{of_arrows, scope-decides, scope-is, scope-same}
use Rattle.key_reach.proofs.Members.{in-either}

-- a test that fails at each member
none : {A : Type 0} (p : A → Bool) (xs : List A) → ((x : A) → IsIn x xs → p x ≡ false) → filter p xs ≡ []
none p [] each = refl
none p (x ∷ xs) each = rw (each x (inl refl)) (none p xs (λ y k. each y (inr k)))

none-flat : {A B : Type 0} (f : A → List B) (xs : List A) → ((x : A) → IsIn x xs → f x ≡ []) → flat_map f xs ≡ []
none-flat f [] each = refl
none-flat f (x ∷ xs) each = rw (each x (inl refl)) (none-flat f xs (λ y k. each y (inr k)))

negated : (b : Bool) → false ≡ not b → b ≡ true
negated true h = refl
negated false h = absurd (false≢true h)

-- without arrows nothing is reached but what is given
reached-given : {A : Type 0} (given : List A) (x : A) → Reaches [] given x → IsIn x given
reached-given given _ (is_given x k) = k
reached-given given _ (follows x y k r) = absurd k

-- no arrow leads to a device
none-to-device : (x y : Scope) → may_lead x y ≡ true → is_device y ≡ true → ⊥
none-to-device x Team h e = false≢true e
none-to-device x (Role r) h e = false≢true e
none-to-device x (User u) h e = false≢true e
none-to-device Team (Device d) h e = false≢true h
none-to-device (Role r) (Device d) h e = false≢true h
none-to-device (User u) (Device d) h e = false≢true h
none-to-device (Device c) (Device d) h e = false≢true h

module _ (t : Table) (law : IsKeyTable t) (alone : HasDeviceKeysAlone t) where
  no-keys-are : no_keys t ≡ map (λ s. NoKey s) (filter (λ s. not (is_device s)) t.scopes)
  no-keys-are = ap (λ l. map (λ s. NoKey s) l) (filter_alike (is_without_key t) (λ s. not (is_device s)) t.scopes (λ s k. alone.devices s (has-in-scope t.scopes s k)))

  -- the keys of live scopes are those of devices
  record IsOfDevice (k : KeyId) : Type 0 where
    held : IsIn k t.currents
    live : is_live t k.scope ≡ true
    device : is_device k.scope ≡ true

  of-device : (k : KeyId) → IsIn k (current_keys t) → IsOfDevice k
  of-device k j =
      let from = of-flat (keys_of t) t.scopes k j in
      let kept = of_filter (λ i. same_scope i.scope from.0) k t.currents from.2 in
      let live = subst (λ s. is_live t s ≡ true) (sym (scope-is k.scope from.0 kept.1)) (has-in-scope t.scopes from.0 from.1) in
      let keyed = any_in (λ i. same_scope i.scope k.scope) t.currents k kept.0 (scope-same k.scope) in
      record { held = kept.0; live = live; device = negated (is_device k.scope) (ap not (sym keyed) ∙ alone.devices k.scope live) }

  -- without boxes a key reaches itself alone
  of-reach : (from : List KeyId) (k : KeyId) → has same_key (reach t.boxes from) k ≡ true → IsIn k from
  of-reach from k h =
      reached-given from k
      (subst (λ boxes. Reaches (box_arrows boxes) from k) alone.unboxed ((closure-reaches same_key key-decides (box_arrows t.boxes) from k).0 h))

  in-reach : (from : List KeyId) (k : KeyId) → IsIn k from → has same_key (reach t.boxes from) k ≡ true
  in-reach from k j = (closure-reaches same_key key-decides (box_arrows t.boxes) from k).1 (is_given k j)

  -- what is leaked is of an unlisted device
  leaked-dead : (k : KeyId) → IsIn k (leaked t) → is_live t k.scope ≡ false
  leaked-dead k j = go (in-either unlisted (unlawful t.boxes) k j)
    where
      unlisted : List KeyId
      unlisted = filter (λ k. is_device k.scope && not (is_live t k.scope)) t.currents

      unlawful : List BoxLine → List KeyId
      unlawful boxes = map (λ b. b.of) (filter (λ b. not (t.allowed b.to.scope b.of.scope)) boxes)

      go : IsIn k unlisted ⊎ IsIn k (unlawful t.boxes) → is_live t k.scope ≡ false
      go (inl h) = not-true (is_live t k.scope) (and_parts _ _ (of_filter (λ k. is_device k.scope && not (is_live t k.scope)) k t.currents h).1).1
      go (inr h) = absurd (subst (λ boxes. IsIn k (unlawful boxes)) alone.unboxed h)

  none-tainted : tainted_of t (current_keys t) ≡ []
  none-tainted = ap (map _) (none (is_tainted t) (current_keys t) clean)
    where
      clean : (k : KeyId) → IsIn k (current_keys t) → is_tainted t k ≡ false
      clean k j = false_from_ne_true (is_tainted t k) (λ h. false≢true (sym (leaked-dead k (of-reach (leaked t) k h)) ∙ (of-device k j).live))

  -- a device is entitled to no other device's scope
  own-alone : (d : Name) (s : Scope) → is_device s ≡ true → Reaches (scope_arrows t) (filter (same_scope (Device d)) t.scopes) s → Device d ≡ s
  own-alone d _ e (is_given s k) = scope-is (Device d) s (of_filter (same_scope (Device d)) s t.scopes k).1
  own-alone d _ e (follows x y k r) = absurd (none-to-device x y (law.leads x y (of_arrows t.allowed t.scopes (x, y) t.scopes k).0) e)

  none-unreached : (k : KeyId) → IsIn k (current_keys t) → unreached_of t (device_names t) k ≡ []
  none-unreached k j = ap (map _) (none (is_unreached t k) (device_names t) (λ d i. false_from_ne_true (is_unreached t k d) (reached d)))
    where
      reached : (d : Name) → is_unreached t k d ≡ true → ⊥
      reached d h =
          let parts = and_parts (is_entitled t d k.scope) _ h in
          let own = own-alone d k.scope (of-device k j).device ((closure-reaches same_scope scope-decides (scope_arrows t) (filter (same_scope (Device d)) t.scopes) k.scope).0 parts.0) in
          let given = in_filter (λ i. same_scope i.scope (Device d)) k t.currents (of-device k j).held (subst (λ s. same_scope k.scope s ≡ true) (sym own) (scope-same k.scope)) in
          false≢true (sym (not-true _ parts.1) ∙ in-reach (keys_of t (Device d)) k given)

  pub debts-are : debts t ≡ map (λ s. NoKey s) (filter (λ s. not (is_device s)) t.scopes)
  debts-are =
      rw (none-tainted, none-flat (unreached_of t (device_names t)) (current_keys t) none-unreached) (append-nil _) ∙ no-keys-are
