-- What a live scope is: the team, a listed role, a listed user, or a listed device.
use Rattle.std.proofs.Common.{◌≡◌, Bool, true, false, not, cond, List, [], ◌∷◌, ◌++◌, map, filter, refl, sym, ◌∙◌, ap, subst, inl, inr, ◌⊎◌}
use Rattle.std.specs.Cmp.Lexicographic.{nat_list_eq_equiv}
use Rattle.std.proofs.lemmas.Bool.{and_from, false≢true}
use Rattle.team_sets.specs.Members.{IsIn}
use Rattle.team_sets.specs.Names.{Name, same_name}
use Rattle.team_sets.proofs.Agree.{any_in}
use Rattle.team_sets.proofs.OrderLeast.{of_filter}
use Rattle.tg_text.specs.declared.keys.KeyId.{KeyId}
use Rattle.tg_text.specs.declared.keys.Scope.{Scope}
use Rattle.tg_text.specs.declared.keys.Scope.TheVariants.{Team, Role, User, Device as DeviceScope}
use Rattle.key_reach.specs.Keys.{is_device, is_live, is_team}
use Rattle.key_reach.proofs.Meeting.{in-has-scope}
use Rattle.key_reach.proofs.Members.{in-either}
use Rattle.key_reach.proofs.Numbered.{in-map, of-map}
use Rattle.team_model.specs.KeyTables.{is_allowed, key_of_device, key_table, live_scopes, scope_of_device, team_scopes}
use Rattle.team_model.specs.State.{State, is_empty_state, lists_user}
use Rattle.team_model.specs.declared.terms.Device.{Device}
use Rattle.team_model.specs.declared.terms.Member.{Member}
use Rattle.team_plans.proofs.TakenKeys.{HasKeyOf}

abbrev is_user : Scope → Bool
is_user (User u) = true
is_user _ = false

abbrev user_in : Scope → Name
user_in (User u) = u
user_in _ = []

module _ (t : State) where
  -- what a scope is live by
  pub record OfTeam (c : Scope) : Type 0 where
    pub full : is_empty_state t ≡ false
    pub is : Team ≡ c

  pub record OfRole (c : Scope) : Type 0 where
    pub role : Name
    pub there : IsIn role t.roles
    pub is : Role role ≡ c

  pub record OfUser (c : Scope) : Type 0 where
    pub member : Member
    pub there : IsIn member t.members
    pub is : User member.user ≡ c

  pub record OfDevice (c : Scope) : Type 0 where
    pub row : Device
    pub there : IsIn row t.devices
    pub listed : row.listed ≡ true
    pub is : DeviceScope row.id ≡ c

  abbrev pub LiveBy : Scope → Type 0
  LiveBy c = OfTeam c ⊎ (OfRole c ⊎ (OfUser c ⊎ OfDevice c))

  of_team : (c : Scope) → IsIn c (team_scopes t) → OfTeam c
  of_team c i = go (is_empty_state t) refl i
    where
      go : (b : Bool) → is_empty_state t ≡ b → IsIn c (cond b [] (Team ∷ [])) → OfTeam c
      go true e i = absurd i
      go false e (inl is) = record { full = e; is = is }
      go false e (inr i) = absurd i

  of_role : (c : Scope) → IsIn c (map (λ (r : Name). Role r) t.roles) → OfRole c
  of_role c i = let r = of-map (λ (r : Name). Role r) c t.roles i in record { role = r.0; there = r.1; is = r.2 }

  of_user : (c : Scope) → IsIn c (map (λ (m : Member). User m.user) t.members) → OfUser c
  of_user c i = let m = of-map (λ (m : Member). User m.user) c t.members i in record { member = m.0; there = m.1; is = m.2 }

  of_device : (c : Scope) → IsIn c (map scope_of_device (filter (λ d. d.listed) t.devices)) → OfDevice c
  of_device c i =
      let d = of-map scope_of_device c (filter (λ d. d.listed) t.devices) i in
      let f = of_filter (λ (d : Device). d.listed) d.0 t.devices d.1 in
      record { row = d.0; there = f.0; listed = f.1; is = d.2 }

  pub live_by : (c : Scope) → is_live (key_table t) c ≡ true → LiveBy c
  live_by c h = first (in-either (team_scopes t) (map (λ (r : Name). Role r) t.roles ++ (map (λ (m : Member). User m.user) t.members ++ map scope_of_device (filter (λ d. d.listed) t.devices))) c (in-has-scope (live_scopes t) c h))
    where
      third : IsIn c (map (λ (m : Member). User m.user) t.members) ⊎ IsIn c (map scope_of_device (filter (λ d. d.listed) t.devices)) → LiveBy c
      third (inl i) = inr (inr (inl (of_user c i)))
      third (inr i) = inr (inr (inr (of_device c i)))

      second : IsIn c (map (λ (r : Name). Role r) t.roles) ⊎ IsIn c (map (λ (m : Member). User m.user) t.members ++ map scope_of_device (filter (λ d. d.listed) t.devices)) → LiveBy c
      second (inl i) = inr (inl (of_role c i))
      second (inr i) = third (in-either (map (λ (m : Member). User m.user) t.members) (map scope_of_device (filter (λ d. d.listed) t.devices)) c i)

      first : IsIn c (team_scopes t) ⊎ IsIn c (map (λ (r : Name). Role r) t.roles ++ (map (λ (m : Member). User m.user) t.members ++ map scope_of_device (filter (λ d. d.listed) t.devices))) → LiveBy c
      first (inl i) = inl (of_team c i)
      first (inr i) = second (in-either (map (λ (r : Name). Role r) t.roles) (map (λ (m : Member). User m.user) t.members ++ map scope_of_device (filter (λ d. d.listed) t.devices)) c i)

  -- the team is live where the state isn't empty
  pub team_full : is_live (key_table t) Team ≡ true → is_empty_state t ≡ false
  team_full h = go (live_by Team h)
    where
      go : LiveBy Team → is_empty_state t ≡ false
      go (inl o) = o.full
      go (inr (inl o)) = absurd (false≢true (ap is_team o.is))
      go (inr (inr (inl o))) = absurd (false≢true (ap is_team o.is))
      go (inr (inr (inr o))) = absurd (false≢true (ap is_team o.is))

  -- a live user is listed
  pub user_listed : (u : Name) → is_live (key_table t) (User u) ≡ true → lists_user t u ≡ true
  user_listed u h = go (live_by (User u) h)
    where
      go : LiveBy (User u) → lists_user t u ≡ true
      go (inl o) = absurd (false≢true (ap is_user o.is))
      go (inr (inl o)) = absurd (false≢true (ap is_user o.is))
      go (inr (inr (inl o))) =
          any_in (λ m. same_name m.user u) t.members o.member o.there (subst (λ n. same_name o.member.user n ≡ true) (ap user_in o.is) (nat_list_eq_equiv.refl o.member.user))
      go (inr (inr (inr o))) = absurd (false≢true (ap is_user o.is))

  -- and leads to the team
  pub users_lead : (u : Name) → is_live (key_table t) (User u) ≡ true → is_live (key_table t) Team ≡ true → is_allowed t (User u) Team ≡ true
  users_lead u user team = and_from (lists_user t u) (not (is_empty_state t)) (user_listed u user) (ap not (team_full team))

  -- a live device has its key
  pub device_keyed : (c : Scope) → is_live (key_table t) c ≡ true → is_device c ≡ true → HasKeyOf c (map key_of_device t.devices)
  device_keyed c h device = go (live_by c h)
    where
      go : LiveBy c → HasKeyOf c (map key_of_device t.devices)
      go (inl o) = absurd (false≢true (ap is_device o.is ∙ device))
      go (inr (inl o)) = absurd (false≢true (ap is_device o.is ∙ device))
      go (inr (inr (inl o))) = absurd (false≢true (ap is_device o.is ∙ device))
      go (inr (inr (inr o))) = (key_of_device o.row, in-map key_of_device o.row t.devices o.there, o.is)

-- a device's key is of a device
pub of_devices : (ds : List Device) (k : KeyId) → IsIn k (map key_of_device ds) → is_device k.scope ≡ true
of_devices ds k i = let d = of-map key_of_device k ds i in sym (ap (λ (j : KeyId). is_device j.scope) d.2)
