-- What holds of the tables of every state, and of what is kept beside them.
use Rattle.std.specs.Prelude.{◌≡◌, ℕ, ◌-◌, Bool, true, false, not, ◌&&◌, if◌then◌else◌, List, Option, length, take}
use Rattle.std.specs.List.{AllByRecursion}
use Rattle.std.specs.Ordering.{nat_cmp}
use Rattle.std.specs.Cmp.Lexicographic.{slice_cmp}
use Rattle.std.specs.declared.cmp.Ordering.{Ordering}
use Rattle.team_sets.specs.Names.{Name, has_name, same_name}
use Rattle.tg_text.specs.Order.{scope_cmp}
use Rattle.tg_text.specs.declared.keys.Scope.{Scope}
use Rattle.tg_text.specs.declared.keys.Scope.TheVariants.{Team, Role, User, Device as DeviceScope}
use Rattle.tg_text.specs.declared.keys.KeyId.{KeyId}
use Rattle.tg_text.specs.declared.keys.BoxLine.{BoxLine}
use Rattle.key_reach.specs.Keys.{is_device, same_scope}
use Rattle.team_model.specs.declared.terms.Member.{Member}
use Rattle.team_model.specs.declared.terms.Device.{Device}
use Rattle.team_model.specs.declared.terms.Invitation.{Invitation}
use Rattle.team_model.specs.State.{State, admin}
use Rattle.team_model.specs.KeyTables.{all_keys, live_scopes}
use Rattle.team_state.specs.Rows.{Ascend, with_row, without_key}

abbrev pub name_cmp : Name → Name → Ordering
name_cmp a b = slice_cmp nat_cmp a b

-- the keys of rows
abbrev pub member_key : Member → Name
member_key m = m.user

abbrev pub device_key : Device → Name
device_key d = d.id

abbrev pub key_scope : KeyId → Scope
key_scope k = k.scope

-- the scopes with a device put among them where it is listed, and else dropped from them
abbrev pub device_scopes : Device → List Scope → List Scope
device_scopes d scopes =
    if d.listed then with_row scope_cmp same_scope (λ s. s) (DeviceScope d.id) scopes else without_key same_scope (λ s. s) (DeviceScope d.id) scopes

-- whether a member is this user and has this role, and whether a device is listed for this user
abbrev pub member_has : Name → Name → Member → Bool
member_has u r m = same_name m.user u && has_name m.roles r

abbrev pub row_lists : Name → Name → Device → Bool
row_lists u i d = d.listed && same_name d.id i && same_name d.user u

abbrev pub is_listed_row : Name → Device → Bool
is_listed_row i d = d.listed && same_name d.id i

-- whether a member is an admin, and isn't this user
abbrev pub is_other_admin : Name → Member → Bool
is_other_admin u m = has_name m.roles admin && not (same_name m.user u)

-- whether a member has a role, whoever it is, and whether a device is another one that is listed for this user
abbrev pub has_given : Name → Member → Bool
has_given r m = has_name m.roles r

abbrev pub is_other_device : Name → Name → Device → Bool
is_other_device u i d = d.listed && (same_name d.user u && not (same_name d.id i))

-- the devices that stay listed without a user
abbrev pub stays_listed : Name → Device → Bool
stays_listed u d = d.listed && not (same_name d.user u)

-- the scopes that stay live without a user, devices aside
abbrev pub keeps_scope : Name → Scope → Bool
keeps_scope u Team = true
keeps_scope u (Role r) = true
keeps_scope u (User v) = not (same_name v u)
keeps_scope u (DeviceScope d) = false

-- each table ascends, and no current key is a device's
pub record IsOrdered (s : State) : Type 0 where
  pub members : Ascend name_cmp (λ m. m.user) s.members
  pub roles : Ascend name_cmp (λ r. r) s.roles
  pub devices : Ascend name_cmp (λ d. d.id) s.devices
  pub invitations : Ascend name_cmp (λ i. i.id) s.invitations
  pub currents : Ascend scope_cmp (λ k. k.scope) s.currents
  pub others : AllByRecursion (λ (k : KeyId). is_device k.scope ≡ false) s.currents

-- the keys of devices stand behind all others, one for each device
abbrev pub without_devices : List KeyId → List Device → List KeyId
without_devices keys devices = take (length keys - length devices) keys

abbrev pub state_of : Option (List ℕ) → List Member → List Name → List Device → List Invitation → List KeyId → List BoxLine → State
state_of title members roles devices invitations keys boxes =
    record { title = title; members = members; roles = roles; devices = devices; invitations = invitations; currents = without_devices keys devices; boxes = boxes }

-- the keys and the live scopes are kept beside the tables
pub record IsKept (s : State) (keys : List KeyId) (scopes : List Scope) : Type 0 where
  pub ordered : IsOrdered s
  pub keys_are : keys ≡ all_keys s
  pub scopes_are : scopes ≡ live_scopes s
