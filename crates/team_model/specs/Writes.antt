-- What a write to the tables of a state changes.
use Rattle.std.specs.Prelude.{ℕ, ◌^◌, true, false, if◌then◌else◌, List, [], ◌∷◌, ◌++◌, Some, bit_or, map}
use Rattle.std.specs.Option.{option_map_or}
use Rattle.team_sets.specs.Names.{Name, same_name}
use Rattle.tg_text.specs.declared.keys.KeyId.{KeyId}
use Rattle.tg_text.specs.declared.keys.BoxLine.{BoxLine}
use Rattle.acts.specs.declared.entry.InviteKind.{InviteKind}
use Rattle.team_model.specs.declared.terms.Member.{Member}
use Rattle.team_model.specs.declared.terms.Device.{Device}
use Rattle.team_model.specs.declared.terms.Invitation.{Invitation}
use Rattle.team_model.specs.KeyTables.{put_current}
use Rattle.team_model.specs.State.{State, device_row, drop_row, invitation_row, put_name, put_row}

-- a device's row without its listing, if it is the user's
abbrev pub unlist_of : Name → Device → Device
unlist_of u d = if same_name d.user u then record d { listed = false } else d

-- a device's row without its listing
abbrev pub unlisted : Device → Device
unlisted d = record d { listed = false }

-- the row of a device that is listed for a user
abbrev pub listed_device : Name → List ℕ → Name → Device
listed_device id seal user = record { id = id; seal = seal; user = user; listed = true }

-- the row of an invitation that a user opens: none of its leaves is used
abbrev pub opened_invitation : Name → InviteKind → Name → ℕ → ℕ → Invitation
opened_invitation id kind user uses expiry = record { id = id; kind = kind; user = user; uses = uses; used = 0; expiry = expiry; closed = false }

-- an invitation's row, closed
abbrev pub closed : Invitation → Invitation
closed i = record i { closed = true }

-- an invitation's row with a leaf more among the used ones
abbrev pub used_at : ℕ → Invitation → Invitation
used_at leaf i = record i { used = bit_or i.used (2 ^ leaf) }

module _ (s : State) where
  abbrev pub with_title : List ℕ → State
  with_title title = record s { title = Some title }

  abbrev pub with_member : Member → State
  with_member member = record s { members = put_row (λ m. m.user) member s.members }

  -- and the devices of the user are unlisted
  abbrev pub without_member : Name → State
  without_member user = record s { members = drop_row (λ m. m.user) user s.members; devices = map (unlist_of user) s.devices }

  abbrev pub with_role : Name → State
  with_role role = record s { roles = put_name role s.roles }

  abbrev pub without_role : Name → State
  without_role role = record s { roles = drop_row (λ r. r) role s.roles }

  abbrev pub with_device : Device → State
  with_device device = record s { devices = put_row (λ d. d.id) device s.devices }

  abbrev pub with_invitation : Invitation → State
  with_invitation invitation = record s { invitations = put_row (λ i. i.id) invitation s.invitations }

  abbrev pub with_key : KeyId → State
  with_key key = record s { currents = put_current key s.currents }

  abbrev pub with_box : BoxLine → State
  with_box line = record s { boxes = s.boxes ++ line ∷ [] }

  abbrev pub with_boxes : List BoxLine → State
  with_boxes lines = record s { boxes = s.boxes ++ lines }

  -- a user is listed, with these roles and no others
  abbrev pub with_roles : Name → List Name → State
  with_roles user roles = with_member (record { user = user; roles = roles })

  -- a device that was ever listed is unlisted
  abbrev pub without_device : Name → State
  without_device id = option_map_or (λ d. with_device (unlisted d)) (device_row s id) s

  -- an invitation that was ever made is closed
  abbrev pub with_closed : Name → State
  with_closed id = option_map_or (λ i. with_invitation (closed i)) (invitation_row s id) s

  -- a leaf of an invitation that was ever made is used
  abbrev pub with_leaf_used : Name → ℕ → State
  with_leaf_used id leaf = option_map_or (λ i. with_invitation (used_at leaf i)) (invitation_row s id) s

-- a new member without roles, with a first device
abbrev pub with_newcomer : State → Name → Name → List ℕ → State
with_newcomer s user id seal = with_device (with_roles s user []) (listed_device id seal user)
