-- The live scopes and the keys of an ordered state ascend.
use Rattle.std.proofs.Common.{◌≡◌, true, false, List, ◌++◌, map, filter, length, Option, Some, None, refl, sym, ◌∙◌, ap}
use Rattle.std.specs.List.{AllByRecursion}
use Rattle.std.specs.List.Sorted.{IsStrictlySortedBy}
use Rattle.std.specs.Cmp.Lexicographic.{nat_list_cmp_total, texts_ties}
use Rattle.std.specs.declared.cmp.Ordering.TheVariants.{Less, Greater}
use Rattle.team_sets.specs.Names.{Name, same_name}
use Rattle.tg_text.specs.Order.{scope_cmp}
use Rattle.tg_text.specs.declared.keys.Scope.{Scope}
use Rattle.tg_text.specs.declared.keys.Scope.TheVariants.{Team, Role, User, Device as DeviceScope}
use Rattle.tg_text.specs.declared.keys.KeyId.{KeyId}
use Rattle.key_reach.specs.Keys.{is_device, same_scope}
use Rattle.team_model.specs.declared.terms.Device.{Device}
use Rattle.team_model.specs.State.{State}
use Rattle.team_model.specs.KeyTables.{all_keys, key_of_device, live_scopes, scope_of_device, team_scopes}
use Rattle.team_state.specs.Rows.{Ascend, with_row}
use Rattle.team_state.specs.Kept.{IsOrdered, name_cmp, without_devices}
use Rattle.team_state.proofs.Listed.{all_of_map, append-ascends, all-before, length-of-map, map-ascends, take-without, with-map}
use Rattle.team_state.proofs.Placed.{all-weaker, filter-ascends, with-prefix, with-suffix}
use Rattle.team_state.proofs.Scopes.{devices_part, from_roles, from_users, itself, roles_part, scopes-tie, scopes-total, team_all, roles_all, users_all, devices_all, roles_above, users_above, users_part}

abbrev pub scope_of_key : KeyId → Scope
scope_of_key k = k.scope

abbrev Less_than : Scope → Scope → Type 0
Less_than x y = scope_cmp x y ≡ Less

module _ (s : State) (up : IsOrdered s) where
  team_ascends : Ascend scope_cmp itself (team_scopes s)
  unfolding IsStrictlySortedBy
  team_ascends = go s.title
    where
      go : (t : Option Name) → Ascend scope_cmp itself (team_scopes (record s { title = t }))
      go None = tt
      go (Some t) = (tt, tt)

  listed_ascend : Ascend scope_cmp itself (devices_part s.devices)
  listed_ascend =
      map-ascends name_cmp same_name (λ d. d.id) scope_cmp same_scope itself scope_of_device (λ a b. refl) (filter (λ d. d.listed) s.devices)
      (filter-ascends name_cmp same_name (λ d. d.id) nat_list_cmp_total texts_ties (λ d. d.listed) s.devices up.devices)

  users_ascend : Ascend scope_cmp itself (from_users s)
  users_ascend =
      append-ascends scope_cmp itself (users_part s.members) (devices_part s.devices)
      (map-ascends name_cmp same_name (λ m. m.user) scope_cmp same_scope itself (λ m. User m.user) (λ a b. refl) s.members up.members)
      listed_ascend
      (all-before scope_cmp itself (users_part s.members) (devices_part s.devices)
      (users_all (λ x. AllByRecursion (Less_than x) (devices_part s.devices)) s (λ u. devices_all (Less_than (User u)) s (λ d. refl))))

  roles_ascend : Ascend scope_cmp itself (from_roles s)
  roles_ascend =
      append-ascends scope_cmp itself (roles_part s.roles) (from_users s)
      (map-ascends name_cmp same_name (λ r. r) scope_cmp same_scope itself (λ r. Role r) (λ a b. refl) s.roles up.roles)
      users_ascend
      (all-before scope_cmp itself (roles_part s.roles) (from_users s)
      (roles_all (λ x. AllByRecursion (Less_than x) (from_users s)) s (λ r. users_above (Less_than (Role r)) s (λ u. refl) (λ d. refl))))

  pub scopes-ascend : Ascend scope_cmp itself (live_scopes s)
  scopes-ascend =
      append-ascends scope_cmp itself (team_scopes s) (from_roles s) team_ascends roles_ascend
      (all-before scope_cmp itself (team_scopes s) (from_roles s)
      (team_all (λ x. AllByRecursion (Less_than x) (from_roles s)) s (roles_above (Less_than Team) s (λ r. refl) (λ u. refl) (λ d. refl))))

  -- the keys of devices stand behind the others
  before_devices : (x : Scope) → is_device x ≡ false → (d : Name) → scope_cmp x (DeviceScope d) ≡ Less
  before_devices Team e d = refl
  before_devices (Role r) e d = refl
  before_devices (User u) e d = refl
  before_devices (DeviceScope c) e d = absurd (true_false e)
    where
      true_false : true ≡ false → ⊥
      true_false h = cc

  behind_others : (x : Scope) → is_device x ≡ false → (d : Name) → scope_cmp (DeviceScope d) x ≡ Greater
  behind_others Team e d = refl
  behind_others (Role r) e d = refl
  behind_others (User u) e d = refl
  behind_others (DeviceScope c) e d = absurd (true_false e)
    where
      true_false : true ≡ false → ⊥
      true_false h = cc

  pub keys-ascend : Ascend scope_cmp scope_of_key (all_keys s)
  keys-ascend =
      append-ascends scope_cmp scope_of_key s.currents (map key_of_device s.devices) up.currents
      (map-ascends name_cmp same_name (λ d. d.id) scope_cmp same_scope scope_of_key key_of_device (λ a b. refl) s.devices up.devices)
      (all-before scope_cmp scope_of_key s.currents (map key_of_device s.devices)
      (all-weaker (λ (k : KeyId). is_device k.scope ≡ false) (λ k. AllByRecursion (λ (j : KeyId). scope_cmp k.scope j.scope ≡ Less) (map key_of_device s.devices))
      (λ k e. all_of_map (λ (j : KeyId). scope_cmp k.scope j.scope ≡ Less) key_of_device s.devices (λ d. before_devices k.scope e d.id)) s.currents up.others))

  pub keys-with_key : (k : KeyId) → is_device k.scope ≡ false
      → with_row scope_cmp same_scope scope_of_key k (all_keys s) ≡ with_row scope_cmp same_scope scope_of_key k s.currents ++ map key_of_device s.devices
  keys-with_key k e =
      with-suffix scope_cmp same_scope scope_of_key scopes-total scopes-tie k s.currents (map key_of_device s.devices)
      (all_of_map (λ (j : KeyId). scope_cmp j.scope k.scope ≡ Greater) key_of_device s.devices (λ d. behind_others k.scope e d.id))

  pub keys-with_device : (d : Device)
      → with_row scope_cmp same_scope scope_of_key (key_of_device d) (all_keys s) ≡ s.currents ++ map key_of_device (with_row name_cmp same_name (λ n. n.id) d s.devices)
  keys-with_device d =
      with-prefix scope_cmp same_scope scope_of_key scopes-total scopes-tie (key_of_device d) s.currents (map key_of_device s.devices)
      (all-weaker (λ (k : KeyId). is_device k.scope ≡ false) (λ k. scope_cmp k.scope (DeviceScope d.id) ≡ Less) (λ k e. before_devices k.scope e d.id) s.currents up.others)
      ∙ ap (λ more. s.currents ++ more)
      (with-map name_cmp same_name (λ n. n.id) scope_cmp same_scope scope_of_key key_of_device (λ a b. refl) d (λ a. sym (texts_ties a.id d.id)) s.devices)

-- what stands before the keys of devices
pub currents-before : (currents : List KeyId) (devices : List Device) → without_devices (currents ++ map key_of_device devices) devices ≡ currents
currents-before currents devices = take-without currents (map key_of_device devices) (length devices) (length-of-map key_of_device devices)
