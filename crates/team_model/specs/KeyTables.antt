-- What the tables of a state say of keys: the live scopes, the arrows between them, and the current keys.
use Rattle.std.specs.Prelude.{Bool, false, not, ◌&&◌, if◌then◌else◌, List, [], ◌∷◌, ◌++◌, map, filter, find, Option}
use Rattle.std.specs.Ordering.{is_lt}
use Rattle.team_sets.specs.Names.{has_name, put_in, same_name}
use Rattle.tg_text.specs.Order.{scope_cmp}
use Rattle.tg_text.specs.declared.keys.Scope.{Scope}
use Rattle.tg_text.specs.declared.keys.Scope.TheVariants.{Team, Role, User, Device as DeviceScope}
use Rattle.tg_text.specs.declared.keys.KeyId.{KeyId}
use Rattle.team_model.specs.declared.terms.Device.{Device}
use Rattle.key_reach.specs.Keys.{Table, same_scope}
use Rattle.team_model.specs.State.{State, admin, has_role, is_empty_state, lists_device, lists_user}

-- the key of a device that was ever listed
abbrev pub key_of_device : Device → KeyId
key_of_device d = record { scope = DeviceScope d.id; generation = 0; public = d.seal }

-- the current key of each scope that ever had one, and the key of each device that was ever listed
abbrev pub all_keys : State → List KeyId
all_keys s = s.currents ++ map key_of_device s.devices

-- the current key of a scope that ever had one, or of a device that was ever listed
abbrev pub current_key : State → Scope → Option KeyId
current_key s c = find (λ k. same_scope k.scope c) (all_keys s)

abbrev pub scope_of_device : Device → Scope
scope_of_device d = DeviceScope d.id

abbrev pub team_scopes : State → List Scope
team_scopes s = if is_empty_state s then [] else Team ∷ []

-- the live scopes in order: the team, unless the state is empty, the listed roles, users and devices
abbrev pub live_scopes : State → List Scope
live_scopes s =
    team_scopes s
    ++ (map (λ r. Role r) s.roles ++ (map (λ m. User m.user) s.members ++ map scope_of_device (filter (λ d. d.listed) s.devices)))

-- the allowed arrows, which join live scopes: a device to the user for whom it is listed, a listed user to a listed role that it
-- has and to the team, a listed role to the team, and the role `admin` to each other listed role
abbrev pub is_allowed : State → Scope → Scope → Bool
is_allowed s (DeviceScope d) (User u) = lists_device s u d && lists_user s u
is_allowed s (User u) (Role r) = has_role s u r && has_name s.roles r
is_allowed s (User u) Team = lists_user s u && not (is_empty_state s)
is_allowed s (Role r) Team = has_name s.roles r && not (is_empty_state s)
is_allowed s (Role q) (Role r) = same_name q admin && (not (same_name r admin) && (has_name s.roles q && has_name s.roles r))
is_allowed s _ _ = false

abbrev pub key_table : State → Table
key_table s = record { boxes = s.boxes; currents = all_keys s; scopes = live_scopes s; allowed = is_allowed s }

-- a key in the place of the current one of its scope, or at its place in the order
abbrev pub put_current : KeyId → List KeyId → List KeyId
put_current k ks = put_in (λ a b. is_lt (scope_cmp a.scope b.scope)) k (filter (λ c. not (same_scope c.scope k.scope)) ks)
