-- Where no key line was taken, a key is owed for each live scope but the devices, and nothing else.
use Rattle.std.proofs.Common.{◌≡◌, ℕ, Bool, true, false, not, ◌&&◌, cond, List, [], ◌∷◌, ◌++◌, append-nil, map, filter, flat_map, refl, sym, ◌∙◌, ap, subst, inl, inr, ◌⊎◌}
use Rattle.std.specs.List.{list_any}
use Rattle.std.proofs.lemmas.Bool.{false_from_ne_true, false≢true, and_parts, not-true, not_from_false, not_from_true}
use Rattle.std.proofs.lemmas.List.Concat.{flat_map-append}
use Rattle.std.proofs.lemmas.List.Elements.{filter-append}
use Rattle.std.proofs.lemmas.List.Folds.{flat_map-map}
use Rattle.team_sets.specs.Names.{Name}
use Rattle.team_sets.specs.Members.{IsIn}
use Rattle.team_sets.specs.Closure.{has, Reaches, is_given, follows}
use Rattle.team_sets.proofs.Agree.{any_in}
use Rattle.team_sets.proofs.Closures.{closure-reaches}
use Rattle.team_sets.proofs.OrderLeast.{in_filter, of_filter}
use Rattle.team_sets.proofs.Pasts.{any_of}
use Rattle.tg_text.specs.declared.keys.Scope.{Scope}
use Rattle.tg_text.specs.declared.keys.Scope.TheVariants.{Team, Role, User, Device as DeviceScope}
use Rattle.tg_text.specs.declared.keys.KeyId.{KeyId}
use Rattle.tg_text.specs.declared.keys.BoxLine.{BoxLine}
use Rattle.key_reach.specs.declared.debt.Debt.TheVariants.{NoKey, Tainted, Unreached}
use Rattle.key_reach.specs.Debts.{debts, device_names, is_unreached, is_without_key, no_keys, unreached_of}
use Rattle.key_reach.specs.Keys.{Table, box_arrows, current_keys, is_device, is_entitled, is_live, is_tainted, keys_of, leaked, reach, same_key, same_scope, scope_arrows}
use Rattle.key_reach.proofs.Currents.{has-in-scope, of-flat}
use Rattle.key_reach.proofs.Members.{in-either}
use Rattle.key_reach.proofs.Equal.{key-decides}
use Rattle.key_reach.proofs.Meeting.{scope-is, scope-same}
use Rattle.team_model.specs.KeyTables.{all_keys, is_allowed, key_of_device, key_table, live_scopes, scope_of_device, team_scopes}
use Rattle.team_model.specs.ShowText.{debt_line, debt_lines}
use Rattle.team_model.specs.DebtLaws.{keyless_lines}
use Rattle.team_model.specs.State.{State, is_empty_state}
use Rattle.team_model.specs.declared.terms.Device.{Device}

filter_all : {A : Type 0} (p : A → Bool) (xs : List A) → ((x : A) → IsIn x xs → p x ≡ true) → filter p xs ≡ xs
filter_all p [] h = refl
filter_all p (x ∷ xs) h = rw (h x (inl refl)) (ap (λ l. x ∷ l) (filter_all p xs (λ y k. h y (inr k))))

none_flat : {A B : Type 0} (f : A → List B) (xs : List A) → ((x : A) → IsIn x xs → f x ≡ []) → flat_map f xs ≡ []
none_flat f [] h = refl
none_flat f (x ∷ xs) h = rw (h x (inl refl)) (none_flat f xs (λ y k. h y (inr k)))

of_map : {A B : Type 0} (f : A → B) (xs : List A) (y : B) → IsIn y (map f xs) → (x : A) × IsIn x xs × (f x ≡ y)
of_map f [] y k = absurd k
of_map f (x ∷ xs) y (inl e) = (x, inl refl, e)
of_map f (x ∷ xs) y (inr k) = let r = of_map f xs y k in (r.0, inr r.1, r.2)

in_map : {A B : Type 0} (f : A → B) (xs : List A) (x : A) → IsIn x xs → IsIn (f x) (map f xs)
in_map f [] x k = absurd k
in_map f (y ∷ ys) x (inl e) = inl (ap f e)
in_map f (y ∷ ys) x (inr k) = inr (in_map f ys x k)

reached_given : {A : Type 0} (given : List A) (x : A) → Reaches [] given x → IsIn x given
reached_given given _ (is_given x k) = k
reached_given given _ (follows x y k r) = absurd k

none_filter : {A : Type 0} (p : A → Bool) (xs : List A) → ((x : A) → IsIn x xs → p x ≡ false) → filter p xs ≡ []
none_filter p [] h = refl
none_filter p (x ∷ xs) h = rw (h x (inl refl)) (none_filter p xs (λ y k. h y (inr k)))

scope_decides : (a b : Scope) → (same_scope a b ≡ true → a ≡ b) × (a ≡ b → same_scope a b ≡ true)
scope_decides a b = (scope-is a b, λ e. subst (λ c. same_scope a c ≡ true) e (scope-same a))

arrow_allowed : (t : Table) (a b : Scope) → IsIn {A = Scope × Scope} (a, b) (scope_arrows t) → t.allowed a b ≡ true
arrow_allowed t a b k =
    let from = of-flat (λ c. map (λ d. (c, d)) (filter (t.allowed c) t.scopes)) t.scopes (a, b) k in
    let to = of_map (λ d. (from.0, d)) (filter (t.allowed from.0) t.scopes) (a, b) from.2 in
    subst (λ (p : Scope × Scope). t.allowed p.0 p.1 ≡ true) to.2 (of_filter (t.allowed from.0) to.0 t.scopes to.1).1

-- a table without boxes, in which devices alone have keys, and no arrow leads to a device
module _ (t : Table) (unboxed : t.boxes ≡ []) (devices : (k : KeyId) → IsIn k t.currents → is_device k.scope ≡ true)
    (never : (a b : Scope) → t.allowed a b ≡ true → is_device b ≡ true → ⊥) where
  record IsHeld (k : KeyId) : Type 0 where
    held : IsIn k t.currents
    live : is_live t k.scope ≡ true

  of_current : (k : KeyId) → IsIn k (current_keys t) → IsHeld k
  of_current k j =
      let from = of-flat (keys_of t) t.scopes k j in
      let kept = of_filter (λ i. same_scope i.scope from.0) k t.currents from.2 in
      record { held = kept.0; live = subst (λ s. is_live t s ≡ true) (sym (scope-is k.scope from.0 kept.1)) (has-in-scope t.scopes from.0 from.1) }

  of_reach : (from : List KeyId) (k : KeyId) → has same_key (reach t.boxes from) k ≡ true → IsIn k from
  of_reach from k h =
      reached_given from k
      (subst (λ boxes. Reaches (box_arrows boxes) from k) unboxed ((closure-reaches same_key key-decides (box_arrows t.boxes) from k).0 h))

  in_reach : (from : List KeyId) (k : KeyId) → IsIn k from → has same_key (reach t.boxes from) k ≡ true
  in_reach from k j = (closure-reaches same_key key-decides (box_arrows t.boxes) from k).1 (is_given k j)

  unlawful : List BoxLine → List KeyId
  unlawful boxes = map (λ b. b.of) (filter (λ b. not (t.allowed b.to.scope b.of.scope)) boxes)

  not_live : (k : KeyId) → IsIn k (leaked t) → is_live t k.scope ≡ false
  unfolding unlawful
  not_live k j = go (in-either (filter (λ k. is_device k.scope && not (is_live t k.scope)) t.currents) (unlawful t.boxes) k j)
    where
      go : IsIn k (filter (λ k. is_device k.scope && not (is_live t k.scope)) t.currents) ⊎ IsIn k (unlawful t.boxes) → is_live t k.scope ≡ false
      go (inl h) =
          not-true (is_live t k.scope)
          (and_parts (is_device k.scope) (not (is_live t k.scope)) (of_filter (λ k. is_device k.scope && not (is_live t k.scope)) k t.currents h).1).1
      go (inr h) = absurd (subst (λ boxes. IsIn k (unlawful boxes)) unboxed h)

  none_tainted : filter (is_tainted t) (current_keys t) ≡ []
  none_tainted = none_filter (is_tainted t) (current_keys t) (λ k j. false_from_ne_true (is_tainted t k) (λ h. false≢true (sym (not_live k (of_reach (leaked t) k h)) ∙ (of_current k j).live)))

  -- a device is entitled to no other device's scope
  own_alone : (d : Name) (c : Scope) → is_device c ≡ true → Reaches (scope_arrows t) (filter (same_scope (DeviceScope d)) t.scopes) c → DeviceScope d ≡ c
  own_alone d _ e (is_given c k) = scope-is (DeviceScope d) c (of_filter (same_scope (DeviceScope d)) c t.scopes k).1
  own_alone d _ e (follows a b k r) = absurd (never a b (arrow_allowed t a b k) e)

  none_unreached : (k : KeyId) → IsIn k (current_keys t) → filter (is_unreached t k) (device_names t) ≡ []
  none_unreached k j = none_filter (is_unreached t k) (device_names t) (λ d i. false_from_ne_true (is_unreached t k d) (met d))
    where
      met : (d : Name) → is_unreached t k d ≡ true → ⊥
      met d h =
          let parts = and_parts (is_entitled t d k.scope) (not (has same_key (reach t.boxes (keys_of t (DeviceScope d))) k)) h in
          let reached = (closure-reaches same_scope scope_decides (scope_arrows t) (filter (same_scope (DeviceScope d)) t.scopes) k.scope).0 parts.0 in
          let own : DeviceScope d ≡ k.scope = own_alone d k.scope (devices k (of_current k j).held) reached in
          let given = in_filter (λ i. same_scope i.scope (DeviceScope d)) k t.currents (of_current k j).held (subst (λ c. same_scope k.scope c ≡ true) (sym own) (scope-same k.scope)) in
          false≢true (sym (not-true (has same_key (reach t.boxes (keys_of t (DeviceScope d))) k) parts.1) ∙ in_reach (keys_of t (DeviceScope d)) k given)

  pub debts_are : debts t ≡ no_keys t
  debts_are =
      ap (λ l. no_keys t ++ (l ++ flat_map (unreached_of t (device_names t)) (current_keys t))) (ap (λ l. map (λ k. Tainted k) l) none_tainted)
      ∙ ap (λ l. no_keys t ++ l) (none_flat (unreached_of t (device_names t)) (current_keys t) (λ k j. ap (λ l. map (λ d. Unreached k d) l) (none_unreached k j)))
      ∙ append-nil (no_keys t)

-- a state without key lines
module _ (s : State) (no_currents : s.currents ≡ []) (no_boxes : s.boxes ≡ []) where
  of_device : (k : KeyId) → IsIn k (all_keys s) → (d : Device) × IsIn d s.devices × (key_of_device d ≡ k)
  of_device k j = of_map key_of_device s.devices k (subst (λ l. IsIn k (l ++ map key_of_device s.devices)) no_currents j)

  only_devices : (k : KeyId) → IsIn k (all_keys s) → is_device k.scope ≡ true
  only_devices k j = let d = of_device k j in ap (λ k. is_device k.scope) (sym d.2)

  never_to_device : (a b : Scope) → is_allowed s a b ≡ true → is_device b ≡ true → ⊥
  never_to_device a Team h e = false≢true e
  never_to_device a (Role r) h e = false≢true e
  never_to_device a (User u) h e = false≢true e
  never_to_device Team (DeviceScope d) h e = false≢true h
  never_to_device (Role q) (DeviceScope d) h e = false≢true h
  never_to_device (User u) (DeviceScope d) h e = false≢true h
  never_to_device (DeviceScope c) (DeviceScope d) h e = false≢true h

  -- a scope that isn't a device's is without a key
  without : (c : Scope) → is_device c ≡ false → is_without_key (key_table s) c ≡ true
  without c other = not_from_false (list_any (λ k. same_scope k.scope c) (all_keys s)) (false_from_ne_true (list_any (λ k. same_scope k.scope c) (all_keys s)) met)
    where
      met : list_any (λ k. same_scope k.scope c) (all_keys s) ≡ true → ⊥
      met h =
          let k = any_of (λ k. same_scope k.scope c) (all_keys s) h in
          false≢true (sym other ∙ subst (λ c. is_device c ≡ true) (scope-is k.0.scope c k.2) (only_devices k.0 k.1))

  -- a listed device has its key
  keyed : (d : Device) → IsIn d s.devices → is_without_key (key_table s) (scope_of_device d) ≡ false
  keyed d j =
      not_from_true (list_any (λ k. same_scope k.scope (scope_of_device d)) (all_keys s))
      (any_in (λ k. same_scope k.scope (scope_of_device d)) (all_keys s) (key_of_device d)
      (subst (λ l. IsIn (key_of_device d) (l ++ map key_of_device s.devices)) (sym no_currents) (in_map key_of_device s.devices d j)) (scope-same (scope_of_device d)))

  owes : Scope → Bool
  owes c = is_without_key (key_table s) c

  all_owe : {A : Type 0} (f : A → Scope) (xs : List A) → ((x : A) → is_device (f x) ≡ false) → filter owes (map f xs) ≡ map f xs
  unfolding owes
  all_owe f xs other = filter_all (is_without_key (key_table s)) (map f xs) (λ c j. let x = of_map f xs c j in without c (subst (λ c. is_device c ≡ false) x.2 (other x.0)))

  team_owes : (b : Bool) → filter owes (cond b [] (Team ∷ [])) ≡ cond b [] (Team ∷ [])
  unfolding owes
  team_owes true = refl
  team_owes false = rw (without Team refl) refl

  none_owe : filter owes (map scope_of_device (filter (λ d. d.listed) s.devices)) ≡ []
  unfolding owes
  none_owe =
      none_filter (is_without_key (key_table s)) (map scope_of_device (filter (λ d. d.listed) s.devices))
      (λ c j. let d = of_map scope_of_device (filter (λ d. d.listed) s.devices) c j in
      subst (λ c. is_without_key (key_table s) c ≡ false) d.2 (keyed d.0 (of_filter (λ d. d.listed) d.0 s.devices d.1).0))

  owing : filter owes (live_scopes s) ≡ team_scopes s ++ (map (λ r. Role r) s.roles ++ map (λ m. User m.user) s.members)
  owing =
      filter-append owes (team_scopes s) (map (λ r. Role r) s.roles ++ (map (λ m. User m.user) s.members ++ map scope_of_device (filter (λ d. d.listed) s.devices)))
      ∙ ap (λ l. l ++ filter owes (map (λ r. Role r) s.roles ++ (map (λ m. User m.user) s.members ++ map scope_of_device (filter (λ d. d.listed) s.devices)))) (team_owes (is_empty_state s))
      ∙ ap (λ l. team_scopes s ++ l)
      (filter-append owes (map (λ r. Role r) s.roles) (map (λ m. User m.user) s.members ++ map scope_of_device (filter (λ d. d.listed) s.devices))
      ∙ ap (λ l. l ++ filter owes (map (λ m. User m.user) s.members ++ map scope_of_device (filter (λ d. d.listed) s.devices))) (all_owe (λ r. Role r) s.roles (λ r. refl))
      ∙ ap (λ l. map (λ r. Role r) s.roles ++ l)
      (filter-append owes (map (λ m. User m.user) s.members) (map scope_of_device (filter (λ d. d.listed) s.devices))
      ∙ ap (λ l. l ++ filter owes (map scope_of_device (filter (λ d. d.listed) s.devices))) (all_owe (λ m. User m.user) s.members (λ m. refl))
      ∙ ap (λ l. map (λ m. User m.user) s.members ++ l) none_owe ∙ append-nil (map (λ m. User m.user) s.members)))

  debts_owed : debts (key_table s) ≡ map (λ c. NoKey c) (team_scopes s ++ (map (λ r. Role r) s.roles ++ map (λ m. User m.user) s.members))
  unfolding owes
  debts_owed = debts_are (key_table s) no_boxes only_devices never_to_device ∙ ap (λ l. map (λ c. NoKey c) l) owing

  line : Scope → List ℕ
  line c = debt_line (NoKey c)

  pub keyless : debt_lines s ≡ keyless_lines s
  unfolding line
  keyless =
      ap (λ l. flat_map debt_line l) debts_owed
      ∙ flat_map-map debt_line (λ c. NoKey c) (team_scopes s ++ (map (λ r. Role r) s.roles ++ map (λ m. User m.user) s.members))
      ∙ flat_map-append line (team_scopes s) (map (λ r. Role r) s.roles ++ map (λ m. User m.user) s.members)
      ∙ ap (λ l. flat_map line (team_scopes s) ++ l)
      (flat_map-append line (map (λ r. Role r) s.roles) (map (λ m. User m.user) s.members)
      ∙ ap (λ l. l ++ flat_map line (map (λ m. User m.user) s.members)) (flat_map-map line (λ r. Role r) s.roles)
      ∙ ap (λ l. flat_map (λ r. line (Role r)) s.roles ++ l) (flat_map-map line (λ m. User m.user) s.members))
