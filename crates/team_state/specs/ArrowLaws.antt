-- Allowed arrows join live scopes and go where they may, whatever the state.
use Rattle.std.proofs.Common.{◌≡◌, Bool, true, false, not, ◌&&◌, ◌||◌, cond, List, [], ◌∷◌, ◌++◌, map, filter, refl, sym, ◌∙◌}
use Rattle.std.specs.List.{list_any}
use Rattle.std.specs.Ordering.{eq_by_cmp}
use Rattle.std.specs.Cmp.Lexicographic.{nat_list_eq_equiv, texts_ties}
use Rattle.std.proofs.lemmas.Bool.{false≢true, and_parts, and_from}
use Rattle.team_sets.specs.Names.{Name, has_name, same_name}
use Rattle.tg_text.specs.Order.{scope_cmp}
use Rattle.tg_text.specs.declared.keys.Scope.{Scope}
use Rattle.tg_text.specs.declared.keys.Scope.TheVariants.{Team, Role, User, Device as DeviceScope}
use Rattle.key_reach.specs.Keys.{is_live, same_scope}
use Rattle.key_reach.specs.Laws.{IsKeyTable, may_lead}
use Rattle.team_model.specs.declared.terms.Member.{Member}
use Rattle.team_model.specs.declared.terms.Device.{Device}
use Rattle.team_model.specs.State.{State, admin, has_role, is_empty_state, lists_device, lists_user}
use Rattle.team_model.specs.KeyTables.{is_allowed, key_table, scope_of_device, team_scopes}
use Rattle.team_state.specs.Kept.{member_has, row_lists}

-- the parts of the live scopes
abbrev roles_part : List Name → List Scope
roles_part rs = map (λ r. Role r) rs

abbrev users_part : List Member → List Scope
users_part ms = map (λ m. User m.user) ms

abbrev devices_part : List Device → List Scope
devices_part ds = map scope_of_device (filter (λ d. d.listed) ds)

abbrev from_users : State → List Scope
from_users s = users_part s.members ++ devices_part s.devices

abbrev from_roles : State → List Scope
from_roles s = roles_part s.roles ++ from_users s

module _ {A : Type 0} where
  any_left : (p : A → Bool) (xs ys : List A) → list_any p xs ≡ true → list_any p (xs ++ ys) ≡ true
  any_left p [] ys h = absurd (false≢true h)
  any_left p (x ∷ xs) ys h = go (p x) h (any_left p xs ys)
    where
      go : (b : Bool) → (b || list_any p xs) ≡ true → (list_any p xs ≡ true → list_any p (xs ++ ys) ≡ true) → (b || list_any p (xs ++ ys)) ≡ true
      go true h more = refl
      go false h more = more h

  any_right : (p : A → Bool) (xs ys : List A) → list_any p ys ≡ true → list_any p (xs ++ ys) ≡ true
  any_right p [] ys h = h
  any_right p (x ∷ xs) ys h = go (p x) (any_right p xs ys h)
    where
      go : (b : Bool) → list_any p (xs ++ ys) ≡ true → (b || list_any p (xs ++ ys)) ≡ true
      go true h = refl
      go false h = h

  any_weaker : (p q : A → Bool) → ((x : A) → p x ≡ true → q x ≡ true) → (xs : List A) → list_any p xs ≡ true → list_any q xs ≡ true
  any_weaker p q weaker [] h = absurd (false≢true h)
  any_weaker p q weaker (x ∷ xs) h = go (p x) (q x) refl refl h (any_weaker p q weaker xs)
    where
      go : (b c : Bool) → p x ≡ b → q x ≡ c → (b || list_any p xs) ≡ true → (list_any p xs ≡ true → list_any q xs ≡ true) → (c || list_any q xs) ≡ true
      go b true e f h more = refl
      go true false e f h more = absurd (false≢true (sym f ∙ weaker x e))
      go false false e f h more = more h

same_name-flip : (a b : Name) → same_name a b ≡ true → eq_by_cmp scope_cmp (Role b) (Role a) ≡ true
same_name-flip a b h = sym (texts_ties b a) ∙ nat_list_eq_equiv.symm b a ∙ h

module _ (s : State) where
  live_team : is_empty_state s ≡ false → is_live (key_table s) Team ≡ true
  live_team some = any_left (same_scope Team) (team_scopes s) (from_roles s) (rw some refl)

  roles_have : (r : Name) (rs : List Name) → has_name rs r ≡ true → list_any (same_scope (Role r)) (roles_part rs) ≡ true
  roles_have r [] h = absurd (false≢true h)
  roles_have r (q ∷ rs) h = go (same_name q r) refl (same_scope (Role r) (Role q)) refl h (roles_have r rs)
    where
      go : (b : Bool) → same_name q r ≡ b → (c : Bool) → same_scope (Role r) (Role q) ≡ c → (b || has_name rs r) ≡ true → (has_name rs r ≡ true → list_any (same_scope (Role r)) (roles_part rs) ≡ true)
          → (c || list_any (same_scope (Role r)) (roles_part rs)) ≡ true
      go b e true f h more = refl
      go true e false f h more = absurd (false≢true (sym f ∙ same_name-flip q r e))
      go false e false f h more = more h

  live_role : (r : Name) → has_name s.roles r ≡ true → is_live (key_table s) (Role r) ≡ true
  live_role r h = any_right (same_scope (Role r)) (team_scopes s) (from_roles s) (any_left (same_scope (Role r)) (roles_part s.roles) (from_users s) (roles_have r s.roles h))

  users_have : (u : Name) (ms : List Member) → list_any (λ m. same_name m.user u) ms ≡ true → list_any (same_scope (User u)) (users_part ms) ≡ true
  users_have u [] h = absurd (false≢true h)
  users_have u (m ∷ ms) h = go (same_name m.user u) refl (same_scope (User u) (User m.user)) refl h (users_have u ms)
    where
      go : (b : Bool) → same_name m.user u ≡ b → (c : Bool) → same_scope (User u) (User m.user) ≡ c → (b || list_any (λ n. same_name n.user u) ms) ≡ true
          → (list_any (λ n. same_name n.user u) ms ≡ true → list_any (same_scope (User u)) (users_part ms) ≡ true) → (c || list_any (same_scope (User u)) (users_part ms)) ≡ true
      go b e true f h more = refl
      go true e false f h more = absurd (false≢true (sym f ∙ same_name-flip m.user u e))
      go false e false f h more = more h

  live_user : (u : Name) → lists_user s u ≡ true → is_live (key_table s) (User u) ≡ true
  live_user u h =
      any_right (same_scope (User u)) (team_scopes s) (from_roles s)
      (any_right (same_scope (User u)) (roles_part s.roles) (from_users s) (any_left (same_scope (User u)) (users_part s.members) (devices_part s.devices) (users_have u s.members h)))

  row_parts : (u i : Name) (d : Device) → row_lists u i d ≡ true → (d.listed ≡ true) × (same_name d.id i ≡ true)
  row_parts u i d = go d.listed (same_name d.id i) (same_name d.user u)
    where
      go : (a b c : Bool) → (a && b && c) ≡ true → (a ≡ true) × (b ≡ true)
      go true true c h = (refl, refl)
      go true false c h = absurd (false≢true h)
      go false true c h = absurd (false≢true h)
      go false false c h = absurd (false≢true h)

  devices_have : (u i : Name) (ds : List Device) → list_any (row_lists u i) ds ≡ true → list_any (same_scope (DeviceScope i)) (devices_part ds) ≡ true
  devices_have u i [] h = absurd (false≢true h)
  devices_have u i (d ∷ ds) h = go (row_lists u i d) refl h (devices_have u i ds)
    where
      kept : (l : Bool) → list_any (same_scope (DeviceScope i)) (devices_part ds) ≡ true → list_any (same_scope (DeviceScope i)) (map scope_of_device (cond l (d ∷ filter (λ e. e.listed) ds) (filter (λ e. e.listed) ds))) ≡ true
      kept true more = any_right (same_scope (DeviceScope i)) (scope_of_device d ∷ []) (devices_part ds) more
      kept false more = more

      go : (b : Bool) → row_lists u i d ≡ b → (b || list_any (row_lists u i) ds) ≡ true → (list_any (row_lists u i) ds ≡ true → list_any (same_scope (DeviceScope i)) (devices_part ds) ≡ true)
          → list_any (same_scope (DeviceScope i)) (devices_part (d ∷ ds)) ≡ true
      go true e h more = let parts = row_parts u i d e in rw (parts.0, same_name-flip d.id i parts.1) refl
      go false e h more = kept d.listed (more h)

  live_device : (u i : Name) → lists_device s u i ≡ true → is_live (key_table s) (DeviceScope i) ≡ true
  live_device u i h =
      any_right (same_scope (DeviceScope i)) (team_scopes s) (from_roles s)
      (any_right (same_scope (DeviceScope i)) (roles_part s.roles) (from_users s) (any_right (same_scope (DeviceScope i)) (users_part s.members) (devices_part s.devices) (devices_have u i s.devices h)))

  member_is_listed : (u r : Name) → has_role s u r ≡ true → lists_user s u ≡ true
  member_is_listed u r h = any_weaker (member_has u r) (λ m. same_name m.user u) (λ m e. (and_parts _ _ e).0) s.members h

  negated : (b : Bool) → not b ≡ true → b ≡ false
  negated true h = absurd (false≢true h)
  negated false h = refl

  joins : (to of : Scope) → is_allowed s to of ≡ true → (is_live (key_table s) to ≡ true) × (is_live (key_table s) of ≡ true)
  joins (DeviceScope d) (User u) h = let parts = and_parts _ _ h in (live_device u d parts.0, live_user u parts.1)
  joins (User u) (Role r) h = let parts = and_parts _ _ h in (live_user u (member_is_listed u r parts.0), live_role r parts.1)
  joins (User u) Team h = let parts = and_parts _ _ h in (live_user u parts.0, live_team (negated (is_empty_state s) parts.1))
  joins (Role r) Team h = let parts = and_parts _ _ h in (live_role r parts.0, live_team (negated (is_empty_state s) parts.1))
  joins (Role q) (Role r) h = let parts = and_parts _ _ (and_parts _ _ (and_parts _ _ h).1).1 in (live_role q parts.0, live_role r parts.1)
  joins Team Team h = absurd (false≢true h)
  joins Team (Role r) h = absurd (false≢true h)
  joins Team (User u) h = absurd (false≢true h)
  joins Team (DeviceScope d) h = absurd (false≢true h)
  joins (Role r) (User u) h = absurd (false≢true h)
  joins (Role r) (DeviceScope d) h = absurd (false≢true h)
  joins (User u) (User v) h = absurd (false≢true h)
  joins (User u) (DeviceScope d) h = absurd (false≢true h)
  joins (DeviceScope d) Team h = absurd (false≢true h)
  joins (DeviceScope d) (Role r) h = absurd (false≢true h)
  joins (DeviceScope d) (DeviceScope e) h = absurd (false≢true h)

  leads_so : (to of : Scope) → is_allowed s to of ≡ true → may_lead to of ≡ true
  leads_so (DeviceScope d) (User u) h = refl
  leads_so (User u) (Role r) h = refl
  leads_so (User u) Team h = refl
  leads_so (Role r) Team h = refl
  leads_so (Role q) (Role r) h =
      let parts = and_parts (same_name q admin) (not (same_name r admin) && (has_name s.roles q && has_name s.roles r)) h in
      and_from (same_name q admin) (not (same_name r admin)) parts.0 (and_parts (not (same_name r admin)) (has_name s.roles q && has_name s.roles r) parts.1).0
  leads_so Team Team h = absurd (false≢true h)
  leads_so Team (Role r) h = absurd (false≢true h)
  leads_so Team (User u) h = absurd (false≢true h)
  leads_so Team (DeviceScope d) h = absurd (false≢true h)
  leads_so (Role r) (User u) h = absurd (false≢true h)
  leads_so (Role r) (DeviceScope d) h = absurd (false≢true h)
  leads_so (User u) (User v) h = absurd (false≢true h)
  leads_so (User u) (DeviceScope d) h = absurd (false≢true h)
  leads_so (DeviceScope d) Team h = absurd (false≢true h)
  leads_so (DeviceScope d) (Role r) h = absurd (false≢true h)
  leads_so (DeviceScope d) (DeviceScope e) h = absurd (false≢true h)

  -- an allowed arrow joins live scopes and goes where it may, whatever the state
  pub allowed_arrows : IsKeyTable (key_table s)
  allowed_arrows = record { joins_live = joins; leads = leads_so }
