-- The live scopes and the keys of a state, and what each write to a table makes of them.
use Rattle.std.proofs.Common.{◌≡◌, ℕ, Bool, true, false, not, cond, List, [], ◌∷◌, ◌++◌, map, filter, Option, Some, None, refl, sym, ◌∙◌, ap, subst, append_assoc, append-nil}
use Rattle.std.specs.List.{AllByRecursion}
use Rattle.std.specs.Cmp.{IsTotalOrder, nat_cmp_total, on_total, then_total}
use Rattle.std.specs.Cmp.Lexicographic.{nat_list_cmp_total, texts_ties}
use Rattle.std.specs.Ordering.{eq_by_cmp, nat_cmp, ordering_then}
use Rattle.std.specs.declared.cmp.Ordering.{Ordering}
use Rattle.std.specs.declared.cmp.Ordering.TheVariants.{Less, Greater}
use Rattle.std.proofs.lemmas.List.Elements.{filter-append}
use Rattle.team_sets.specs.Names.{Name, same_name}
use Rattle.tg_text.specs.Order.{scope_cmp}
use Rattle.tg_text.specs.declared.keys.Scope.{Scope}
use Rattle.tg_text.specs.declared.keys.Scope.TheVariants.{Team, Role, User, Device as DeviceScope}
use Rattle.key_reach.specs.Keys.{same_scope}
use Rattle.team_model.specs.declared.terms.Member.{Member}
use Rattle.team_model.specs.declared.terms.Device.{Device}
use Rattle.team_model.specs.State.{State}
use Rattle.team_model.specs.KeyTables.{live_scopes, scope_of_device, team_scopes}
use Rattle.team_model.specs.Writes.{unlist_of}
use Rattle.team_state.specs.Rows.{Ascend, AreAbove, AreBelow, with_row, without_key}
use Rattle.team_state.specs.Kept.{keeps_scope, name_cmp, stays_listed}
use Rattle.team_state.proofs.Listed.{all_of_map, with-map, without-map}
use Rattle.team_state.proofs.Placed.{all-append, filter-all, filter-none, filter-with, filter-without, with-prefix, with-suffix, without-prefix, without-suffix}

-- the order of scopes
kind : Scope → ℕ
kind Team = 0
kind (Role r) = 1
kind (User u) = 2
kind (DeviceScope d) = 3

name_of : Scope → Name
name_of Team = []
name_of (Role r) = r
name_of (User u) = u
name_of (DeviceScope d) = d

by_parts : (a b : Scope) → ordering_then (nat_cmp (kind a) (kind b)) (name_cmp (name_of a) (name_of b)) ≡ scope_cmp a b
unfolding kind name_of
by_parts Team Team = refl
by_parts Team (Role b) = refl
by_parts Team (User b) = refl
by_parts Team (DeviceScope b) = refl
by_parts (Role a) Team = refl
by_parts (Role a) (Role b) = refl
by_parts (Role a) (User b) = refl
by_parts (Role a) (DeviceScope b) = refl
by_parts (User a) Team = refl
by_parts (User a) (Role b) = refl
by_parts (User a) (User b) = refl
by_parts (User a) (DeviceScope b) = refl
by_parts (DeviceScope a) Team = refl
by_parts (DeviceScope a) (Role b) = refl
by_parts (DeviceScope a) (User b) = refl
by_parts (DeviceScope a) (DeviceScope b) = refl

pub scopes-total : IsTotalOrder scope_cmp
scopes-total = subst (λ (o : Scope → Scope → Ordering). IsTotalOrder o) (λ i a b. by_parts a b i) (then_total (on_total kind nat_cmp_total) (on_total name_of nat_list_cmp_total))

pub scopes-tie : (a b : Scope) → same_scope a b ≡ eq_by_cmp scope_cmp a b
scopes-tie a b = refl

abbrev pub itself : Scope → Scope
itself s = s

-- names as scopes of one kind
same_role : (a b : Name) → same_scope (Role a) (Role b) ≡ same_name a b
same_role a b = sym (texts_ties a b)

same_user : (a b : Name) → same_scope (User a) (User b) ≡ same_name a b
same_user a b = sym (texts_ties a b)

same_device : (a b : Name) → same_scope (DeviceScope a) (DeviceScope b) ≡ same_name a b
same_device a b = sym (texts_ties a b)

abbrev pub roles_part : List Name → List Scope
roles_part rs = map (λ r. Role r) rs

abbrev pub users_part : List Member → List Scope
users_part ms = map (λ m. User m.user) ms

abbrev pub devices_part : List Device → List Scope
devices_part ds = map scope_of_device (filter (λ d. d.listed) ds)

pub team_all : (P : Scope → Type 0) (s : State) → P Team → AllByRecursion P (team_scopes s)
team_all P s p = go s.title
  where
    go : (t : Option Name) → AllByRecursion P (team_scopes (record s { title = t }))
    go None = tt
    go (Some t) = (p, tt)

pub roles_all : (P : Scope → Type 0) (s : State) → ((r : Name) → P (Role r)) → AllByRecursion P (roles_part s.roles)
roles_all P s p = all_of_map P (λ r. Role r) s.roles p

pub users_all : (P : Scope → Type 0) (s : State) → ((u : Name) → P (User u)) → AllByRecursion P (users_part s.members)
users_all P s p = all_of_map P (λ m. User m.user) s.members (λ m. p m.user)

pub devices_all : (P : Scope → Type 0) (s : State) → ((d : Name) → P (DeviceScope d)) → AllByRecursion P (devices_part s.devices)
devices_all P s p = all_of_map P scope_of_device (filter (λ d. d.listed) s.devices) (λ d. p d.id)

-- the live scopes behind each part
abbrev pub from_users : State → List Scope
from_users s = users_part s.members ++ devices_part s.devices

abbrev pub from_roles : State → List Scope
from_roles s = roles_part s.roles ++ from_users s

pub users_above : (P : Scope → Type 0) (s : State) → ((u : Name) → P (User u)) → ((d : Name) → P (DeviceScope d)) → AllByRecursion P (from_users s)
users_above P s p q = all-append P (users_part s.members) (devices_part s.devices) (users_all P s p) (devices_all P s q)

pub roles_above : (P : Scope → Type 0) (s : State) → ((r : Name) → P (Role r)) → ((u : Name) → P (User u)) → ((d : Name) → P (DeviceScope d)) → AllByRecursion P (from_roles s)
roles_above P s o p q = all-append P (roles_part s.roles) (from_users s) (roles_all P s o) (users_above P s p q)

abbrev pub with_scope : Scope → List Scope → List Scope
with_scope x xs = with_row scope_cmp same_scope itself x xs

abbrev pub without_scope : Scope → List Scope → List Scope
without_scope x xs = without_key same_scope itself x xs

pub scopes-with_title : (s : State) (t : Name) → with_scope Team (live_scopes s) ≡ live_scopes (record s { title = Some t })
scopes-with_title s t = go s.title
  where
    above : AreAbove scope_cmp itself Team (from_roles s)
    above = roles_above (λ x. scope_cmp x Team ≡ Greater) s (λ r. refl) (λ u. refl) (λ d. refl)

    go : (o : Option Name) → with_scope Team (live_scopes (record s { title = o })) ≡ Team ∷ from_roles s
    go None = with-suffix scope_cmp same_scope itself scopes-total scopes-tie Team [] (from_roles s) above
    go (Some o) = with-suffix scope_cmp same_scope itself scopes-total scopes-tie Team (Team ∷ []) (from_roles s) above

module _ (s : State) where
  team_below : (x : Scope) → scope_cmp Team x ≡ Less → AreBelow scope_cmp itself x (team_scopes s)
  team_below x e = team_all (λ y. scope_cmp y x ≡ Less) s e

  roles_below : (x : Scope) → ((r : Name) → scope_cmp (Role r) x ≡ Less) → AreBelow scope_cmp itself x (roles_part s.roles)
  roles_below x e = roles_all (λ y. scope_cmp y x ≡ Less) s e

  users_below : (x : Scope) → ((u : Name) → scope_cmp (User u) x ≡ Less) → AreBelow scope_cmp itself x (users_part s.members)
  users_below x e = users_all (λ y. scope_cmp y x ≡ Less) s e

  pub scopes-with_role : (r : Name) → with_scope (Role r) (live_scopes s) ≡ live_scopes (record s { roles = with_row name_cmp same_name (λ n. n) r s.roles })
  scopes-with_role r =
      with-prefix scope_cmp same_scope itself scopes-total scopes-tie (Role r) (team_scopes s) (from_roles s) (team_below (Role r) refl)
      ∙ ap (λ rest. team_scopes s ++ rest)
      (with-suffix scope_cmp same_scope itself scopes-total scopes-tie (Role r) (roles_part s.roles) (from_users s) (users_above (λ x. scope_cmp x (Role r) ≡ Greater) s (λ u. refl) (λ d. refl))
      ∙ ap (λ front. front ++ from_users s)
      (with-map name_cmp same_name (λ n. n) scope_cmp same_scope itself (λ n. Role n) (λ a b. refl) r (λ a. same_role a r) s.roles))

  pub scopes-without_role : (r : Name) → without_scope (Role r) (live_scopes s) ≡ live_scopes (record s { roles = without_key same_name (λ n. n) r s.roles })
  scopes-without_role r =
      without-prefix scope_cmp same_scope itself scopes-total scopes-tie (Role r) (team_scopes s) (from_roles s) (team_below (Role r) refl)
      ∙ ap (λ rest. team_scopes s ++ rest)
      (without-suffix scope_cmp same_scope itself scopes-total scopes-tie (Role r) (roles_part s.roles) (from_users s) (users_above (λ x. scope_cmp x (Role r) ≡ Greater) s (λ u. refl) (λ d. refl))
      ∙ ap (λ front. front ++ from_users s)
      (without-map name_cmp same_name (λ n. n) scope_cmp same_scope itself (λ n. Role n) (λ a b. refl) r (Role r) (λ a. same_role a r) s.roles))

  pub scopes-with_member : (m : Member) → with_scope (User m.user) (live_scopes s) ≡ live_scopes (record s { members = with_row name_cmp same_name (λ n. n.user) m s.members })
  scopes-with_member m =
      with-prefix scope_cmp same_scope itself scopes-total scopes-tie (User m.user) (team_scopes s) (from_roles s) (team_below (User m.user) refl)
      ∙ ap (λ rest. team_scopes s ++ rest)
      (with-prefix scope_cmp same_scope itself scopes-total scopes-tie (User m.user) (roles_part s.roles) (from_users s) (roles_below (User m.user) (λ r. refl))
      ∙ ap (λ rest. roles_part s.roles ++ rest)
      (with-suffix scope_cmp same_scope itself scopes-total scopes-tie (User m.user) (users_part s.members) (devices_part s.devices) (devices_all (λ x. scope_cmp x (User m.user) ≡ Greater) s (λ d. refl))
      ∙ ap (λ front. front ++ devices_part s.devices)
      (with-map name_cmp same_name (λ n. n.user) scope_cmp same_scope itself (λ n. User n.user) (λ a b. refl) m (λ a. same_user a.user m.user) s.members)))

  -- behind the users
  with_device_scope : (d : Name) → with_scope (DeviceScope d) (live_scopes s) ≡ team_scopes s ++ (roles_part s.roles ++ (users_part s.members ++ with_scope (DeviceScope d) (devices_part s.devices)))
  with_device_scope d =
      with-prefix scope_cmp same_scope itself scopes-total scopes-tie (DeviceScope d) (team_scopes s) (from_roles s) (team_below (DeviceScope d) refl)
      ∙ ap (λ rest. team_scopes s ++ rest)
      (with-prefix scope_cmp same_scope itself scopes-total scopes-tie (DeviceScope d) (roles_part s.roles) (from_users s) (roles_below (DeviceScope d) (λ r. refl))
      ∙ ap (λ rest. roles_part s.roles ++ rest)
      (with-prefix scope_cmp same_scope itself scopes-total scopes-tie (DeviceScope d) (users_part s.members) (devices_part s.devices) (users_below (DeviceScope d) (λ u. refl))))

  without_device_scope : (d : Name) → without_scope (DeviceScope d) (live_scopes s) ≡ team_scopes s ++ (roles_part s.roles ++ (users_part s.members ++ without_scope (DeviceScope d) (devices_part s.devices)))
  without_device_scope d =
      without-prefix scope_cmp same_scope itself scopes-total scopes-tie (DeviceScope d) (team_scopes s) (from_roles s) (team_below (DeviceScope d) refl)
      ∙ ap (λ rest. team_scopes s ++ rest)
      (without-prefix scope_cmp same_scope itself scopes-total scopes-tie (DeviceScope d) (roles_part s.roles) (from_users s) (roles_below (DeviceScope d) (λ r. refl))
      ∙ ap (λ rest. roles_part s.roles ++ rest)
      (without-prefix scope_cmp same_scope itself scopes-total scopes-tie (DeviceScope d) (users_part s.members) (devices_part s.devices) (users_below (DeviceScope d) (λ u. refl))))

  abbrev pub device_rows : Device → List Device
  device_rows d = with_row name_cmp same_name (λ n. n.id) d s.devices

  pub scopes-with_listed : (d : Device) → Ascend name_cmp (λ n. n.id) s.devices → d.listed ≡ true → with_scope (DeviceScope d.id) (live_scopes s) ≡ live_scopes (record s { devices = device_rows d })
  scopes-with_listed d up listed =
      with_device_scope d.id
      ∙ ap (λ more. team_scopes s ++ (roles_part s.roles ++ (users_part s.members ++ more)))
      (with-map name_cmp same_name (λ n. n.id) scope_cmp same_scope itself scope_of_device (λ a b. refl) d (λ a. same_device a.id d.id) (filter (λ n. n.listed) s.devices)
      ∙ ap (map scope_of_device) (sym (filter-with name_cmp same_name (λ n. n.id) nat_list_cmp_total texts_ties (λ n. n.listed) d s.devices up listed)))

  pub scopes-with_unlisted : (d : Device) → d.listed ≡ false → without_scope (DeviceScope d.id) (live_scopes s) ≡ live_scopes (record s { devices = device_rows d })
  scopes-with_unlisted d unlisted =
      without_device_scope d.id
      ∙ ap (λ more. team_scopes s ++ (roles_part s.roles ++ (users_part s.members ++ more)))
      (without-map name_cmp same_name (λ n. n.id) scope_cmp same_scope itself scope_of_device (λ a b. refl) d.id (DeviceScope d.id) (λ a. same_device a.id d.id) (filter (λ n. n.listed) s.devices)
      ∙ ap (map scope_of_device) (sym (filter-without name_cmp same_name (λ n. n.id) nat_list_cmp_total texts_ties (λ n. n.listed) d s.devices unlisted)))

  -- without a member: what is kept of the scopes, and the devices that stay
  abbrev pub other_user : Name → Member → Bool
  other_user u m = not (same_name m.user u)

  keeps_users : (u : Name) (ms : List Member) → filter (keeps_scope u) (users_part ms) ≡ users_part (without_key same_name (λ m. m.user) u ms)
  keeps_users u [] = refl
  keeps_users u (m ∷ ms) = go (other_user u m) refl (keeps_users u ms)
    where
      go : (b : Bool) → not (same_name m.user u) ≡ b → filter (keeps_scope u) (users_part ms) ≡ users_part (filter (other_user u) ms)
          → filter (keeps_scope u) (User m.user ∷ users_part ms) ≡ users_part (cond b (m ∷ filter (other_user u) ms) (filter (other_user u) ms))
      go true e rest = rw e (ap (λ more. User m.user ∷ more) rest)
      go false e rest = rw e rest

  keeps_devices : (u : Name) (ds : List Device) → map scope_of_device (filter (stays_listed u) ds) ≡ devices_part (map (unlist_of u) ds)
  keeps_devices u [] = refl
  keeps_devices u (d ∷ ds) = go (same_name d.user u) refl d.listed refl (keeps_devices u ds)
    where
      go : (b : Bool) → same_name d.user u ≡ b → (l : Bool) → d.listed ≡ l → map scope_of_device (filter (stays_listed u) ds) ≡ devices_part (map (unlist_of u) ds)
          → map scope_of_device (filter (stays_listed u) (d ∷ ds)) ≡ devices_part (map (unlist_of u) (d ∷ ds))
      go true e true f rest = rw (e, f) rest
      go true e false f rest = rw (e, f) rest
      go false e true f rest = rw (e, f) (ap (λ more. scope_of_device d ∷ more) rest)
      go false e false f rest = rw (e, f) rest

  pub scopes-without_member : (u : Name)
      → filter (keeps_scope u) (live_scopes s) ++ map scope_of_device (filter (stays_listed u) s.devices) ≡ live_scopes (record s { members = without_key same_name (λ m. m.user) u s.members; devices = map (unlist_of u) s.devices })
  scopes-without_member u =
      let parted =
      filter-append (keeps_scope u) (team_scopes s) (from_roles s)
      ∙ ap (λ more. filter (keeps_scope u) (team_scopes s) ++ more)
      (filter-append (keeps_scope u) (roles_part s.roles) (from_users s)
      ∙ ap (λ more. filter (keeps_scope u) (roles_part s.roles) ++ more) (filter-append (keeps_scope u) (users_part s.members) (devices_part s.devices))) in
      let teams = filter-all (keeps_scope u) (team_scopes s) (team_all (λ x. keeps_scope u x ≡ true) s refl) in
      let roles = filter-all (keeps_scope u) (roles_part s.roles) (roles_all (λ x. keeps_scope u x ≡ true) s (λ r. refl)) in
      let devices = filter-none (keeps_scope u) (devices_part s.devices) (devices_all (λ x. keeps_scope u x ≡ false) s (λ d. refl)) in
      rw (parted, teams, roles, devices, keeps_users u s.members, keeps_devices u s.devices, append-nil, append_assoc, append_assoc) refl
