-- The state of a team, as tables that ascend by name or id.
use Rattle.std.specs.Prelude.{ℕ, Bool, not, ◌&&◌, List, [], filter, find, length, codes, Option, None, is_none}
use Rattle.std.specs.Option.{option_map_or}
use Rattle.std.specs.List.{list_any}
use Rattle.team_sets.specs.Names.{Name, same_name, name_lt, has_name, put_in}
use Rattle.team_model.specs.declared.terms.Member.{Member}
use Rattle.team_model.specs.declared.terms.Device.{Device}
use Rattle.team_model.specs.declared.terms.Invitation.{Invitation}
use Rattle.tg_text.specs.declared.keys.KeyId.{KeyId}
use Rattle.tg_text.specs.declared.keys.BoxLine.{BoxLine}

-- each table ascends: members by user, roles by name, devices and invitations by id, current keys by scope. A device that was
-- ever listed keeps its row, an invitation that is closed too, and each scope that ever had a key, devices aside, its current
-- one. Boxes stand as they were taken
pub record State : Type 0 where
  pub title : Option (List ℕ)
  pub members : List Member
  pub roles : List Name
  pub devices : List Device
  pub invitations : List Invitation
  pub currents : List KeyId
  pub boxes : List BoxLine

abbrev pub empty_state : State
empty_state = record { title = None; members = []; roles = []; devices = []; invitations = []; currents = []; boxes = [] }

abbrev pub is_empty_state : State → Bool
is_empty_state s = is_none s.title

abbrev pub admin : Name
admin = codes "admin"

-- a row in the place of the row with its key, or at its place in the order
module _ {A : Type 0} (key : A → Name) where
  abbrev pub put_row : A → List A → List A
  put_row row rows = put_in (λ a b. name_lt (key a) (key b)) row (filter (λ r. not (same_name (key r) (key row))) rows)

  abbrev pub drop_row : Name → List A → List A
  drop_row k rows = filter (λ r. not (same_name (key r) k)) rows

abbrev pub put_name : Name → List Name → List Name
put_name n ns = put_row (λ m. m) n ns

-- questions to a state
module _ (s : State) where
  abbrev pub lists_user : Name → Bool
  lists_user u = list_any (λ m. same_name m.user u) s.members

  abbrev pub has_role : Name → Name → Bool
  has_role u r = list_any (λ m. same_name m.user u && has_name m.roles r) s.members

  abbrev pub is_admin : Name → Bool
  is_admin u = has_role u admin

  abbrev pub lists_device : Name → Name → Bool
  lists_device u d = list_any (λ x. x.listed && same_name x.id d && same_name x.user u) s.devices

  abbrev pub is_listed : Name → Bool
  is_listed d = list_any (λ x. x.listed && same_name x.id d) s.devices

  abbrev pub was_listed : Name → Bool
  was_listed d = list_any (λ x. same_name x.id d) s.devices

  -- how many devices were ever listed for u
  abbrev pub devices_ever : Name → ℕ
  devices_ever u = length (filter (λ x. same_name x.user u) s.devices)

  -- u is an admin and no other user is
  abbrev pub is_only_admin : Name → Bool
  is_only_admin u = is_admin u && not (list_any (λ m. has_name m.roles admin && not (same_name m.user u)) s.members)

  abbrev pub member_row : Name → Option Member
  member_row u = find (λ m. same_name m.user u) s.members

  -- the roles of u, none where u isn't listed
  abbrev pub roles_of : Name → List Name
  roles_of u = option_map_or (λ m. m.roles) (member_row u) []

  -- whether a member has the role
  abbrev pub is_given : Name → Bool
  is_given r = list_any (λ m. has_name m.roles r) s.members

  -- the row of a device that was ever listed
  abbrev pub device_row : Name → Option Device
  device_row d = find (λ x. same_name x.id d) s.devices

  -- how many devices are listed for u
  abbrev pub devices_listed : Name → ℕ
  devices_listed u = length (filter (λ x. x.listed && same_name x.user u) s.devices)

  -- whether another device than d is listed for u
  abbrev pub has_other_device : Name → Name → Bool
  has_other_device u d = list_any (λ x. x.listed && (same_name x.user u && not (same_name x.id d))) s.devices

  -- the row of an invitation that was ever made
  abbrev pub invitation_row : Name → Option Invitation
  invitation_row i = find (λ v. same_name v.id i) s.invitations

  -- how many invitations are open
  abbrev pub open_invitations : ℕ
  open_invitations = length (filter (λ v. not v.closed) s.invitations)
