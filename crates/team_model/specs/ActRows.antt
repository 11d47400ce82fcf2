-- Worked rows of the act table. Names of one byte are enough, and here the id of a device or an invitation is its key.
use Rattle.std.specs.Prelude.{◌≡◌, ℕ, List, [], ◌∷◌, ◌++◌, fold, map, replicate, codes, Option, Some, None}
use Rattle.team_sets.specs.Names.{Name}
use Rattle.acts.specs.declared.entry.Act.{Act}
use Rattle.acts.specs.declared.entry.Act.TheVariants.{Found, AddMember, RemoveMember, AddRole, RemoveRole, GiveRole, TakeRole, AddDevice, RemoveDevice, InviteMember, InviteDevice, Revoke, AdmitMember, AdmitDevice, Rotate, Seal, Title, Join}
use Rattle.acts.specs.declared.entry.Entry.{Entry}
use Rattle.acts.specs.declared.entry.InviteKind.TheVariants.{Member as of_members, Device as of_devices}
use Rattle.tg_text.specs.declared.keys.Scope.TheVariants.{Team, Role, User}
use Rattle.team_model.specs.ActTable.{after_by, refusal_by}
use Rattle.team_model.specs.State.{State, admin, empty_state}
use Rattle.team_model.specs.Writes.{closed, listed_device, opened_invitation, unlisted, used_at}
use Rattle.team_model.specs.declared.terms.Invitation.{Invitation}
use Rattle.team_model.specs.declared.terms.Member.{Member}
use Rattle.team_model.specs.declared.terms.Reason.{Reason}
use Rattle.team_model.specs.declared.terms.Reason.TheVariants.{NotListed, NotAdmin, NotYours, Present, Absent, LastAdmin, LastDevice, WasRemoved, NoInvite, Spent, Expired, TooMany, Reserved, NotEmpty}

abbrev own_key : List ℕ → Name
own_key key = key

abbrev ann : Name
ann = 1 ∷ []

abbrev bo : Name
bo = 2 ∷ []

abbrev cy : Name
cy = 3 ∷ []

abbrev di : Name
di = 4 ∷ []

abbrev editor : Name
editor = codes "editor"

-- by the user's first device, which bears the user's name, or by another
abbrev by : Name → Act → Entry
by u a = record { user = u; device = u; time = 0; act = a; lines = record { news = []; boxes = [] } }

abbrev by_device : Name → Name → Act → Entry
by_device u d a = record (by u a) { device = d }

abbrev add : Name → Act
add u = AddMember u u []

-- what a state says to each of some entries
abbrev refusals : State → List Entry → List (Option Reason)
refusals s es = map (λ e. refusal_by own_key s e) es

abbrev after_all : State → List Entry → State
after_all s es = fold (λ s e. after_by own_key s e) s es

-- ann founds, and adds bo and cy, and the role `editor`, which she gives to bo. Cy has a second device, and a third that is removed
abbrev pub crew : State
crew = after_all empty_state
    (by ann (Found [] (codes "Reef crew")) ∷ by ann (add bo) ∷ by ann (add cy) ∷ by ann (AddRole editor) ∷ by ann (GiveRole bo editor)
    ∷ by cy (AddDevice (31 ∷ []) []) ∷ by cy (AddDevice (32 ∷ []) []) ∷ by cy (RemoveDevice cy (32 ∷ [])) ∷ [])

abbrev member : Name → List Name → Member
member u roles = record { user = u; roles = roles }

abbrev pub FoundingRow : Type 0
FoundingRow = (crew.title ≡ Some (codes "Reef crew"))
    × (crew.members ≡ member ann (admin ∷ []) ∷ member bo (editor ∷ []) ∷ member cy [] ∷ [])
    × (crew.roles ≡ admin ∷ editor ∷ [])
    × (crew.devices ≡ listed_device ann [] ann ∷ listed_device bo [] bo ∷ listed_device cy [] cy ∷ listed_device (31 ∷ []) [] cy
    ∷ unlisted (listed_device (32 ∷ []) [] cy) ∷ [])
    × (refusals crew (by ann (Found [] (codes "Mine")) ∷ by di (Found [] (codes "Mine")) ∷ []) ≡ Some Present ∷ Some Present ∷ [])

-- whoever isn't listed, or writes by a device that isn't listed for him, is refused before all else
abbrev pub ListedRow : Type 0
ListedRow = (refusals crew (by di Join ∷ by di (AddRole admin) ∷ by_device cy (32 ∷ []) Join ∷ by_device ann bo Seal ∷ by_device cy (31 ∷ []) Seal ∷ by bo Join ∷ [])
    ≡ Some NotListed ∷ Some NotListed ∷ Some NotListed ∷ Some NotListed ∷ None ∷ None ∷ [])
    × (refusals empty_state (by ann Join ∷ by ann (Found [] []) ∷ []) ≡ Some NotListed ∷ None ∷ [])

-- a state in which n devices more are listed for di, who is no member
abbrev many_devices : ℕ → State → State
many_devices n s = record s { devices = s.devices ++ replicate n (listed_device (9 ∷ []) [] di) }

abbrev pub NewcomerRow : Type 0
NewcomerRow =
    (refusals crew (by bo (add di) ∷ by ann (add bo) ∷ by ann (AddMember di bo []) ∷ by ann (AddMember di (32 ∷ []) []) ∷ by ann (add di) ∷ [])
    ≡ Some NotAdmin ∷ Some Present ∷ Some Present ∷ Some WasRemoved ∷ None ∷ [])
    × (refusals (record crew { members = crew.members ++ replicate 252 (member (9 ∷ []) []) }) (by ann (add di) ∷ []) ≡ None ∷ [])
    × (refusals (record crew { members = crew.members ++ replicate 253 (member (9 ∷ []) []) }) (by ann (add di) ∷ []) ≡ Some TooMany ∷ [])
    × (refusals (many_devices 63 crew) (by ann (add di) ∷ []) ≡ None ∷ [])
    × (refusals (many_devices 64 crew) (by ann (add di) ∷ []) ≡ Some TooMany ∷ [])

-- a member may go himself, and who is no admin removes no other. What goes leaves its rows of devices
abbrev pub RemovalRow : Type 0
RemovalRow =
    (refusals crew (by bo (RemoveMember cy) ∷ by ann (RemoveMember di) ∷ by ann (RemoveMember ann) ∷ by bo (RemoveMember bo) ∷ [])
    ≡ Some NotAdmin ∷ Some Absent ∷ Some LastAdmin ∷ None ∷ [])
    × ((after_all crew (by ann (RemoveMember bo) ∷ [])).members ≡ member ann (admin ∷ []) ∷ member cy [] ∷ [])
    × (refusals (after_all crew (by ann (RemoveMember bo) ∷ [])) (by ann (AddMember bo bo []) ∷ by ann (AddMember bo (21 ∷ []) []) ∷ [])
    ≡ Some WasRemoved ∷ None ∷ [])
    × (refusals (after_all crew (by ann (GiveRole bo admin) ∷ [])) (by ann (RemoveMember ann) ∷ by bo (RemoveMember ann) ∷ []) ≡ None ∷ None ∷ [])

abbrev pub RoleRow : Type 0
RoleRow =
    (refusals crew (by bo (AddRole admin) ∷ by bo (AddRole (codes "guide")) ∷ by ann (AddRole editor) ∷ by ann (AddRole (codes "guide")) ∷ [])
    ≡ Some Reserved ∷ Some NotAdmin ∷ Some Present ∷ None ∷ [])
    × (refusals (record crew { roles = crew.roles ++ replicate 29 (codes "guest") }) (by ann (AddRole (codes "guide")) ∷ []) ≡ None ∷ [])
    × (refusals (record crew { roles = crew.roles ++ replicate 30 (codes "guest") }) (by ann (AddRole (codes "guide")) ∷ []) ≡ Some TooMany ∷ [])
    × (refusals crew (by bo (RemoveRole admin) ∷ by bo (RemoveRole editor) ∷ by ann (RemoveRole (codes "guide")) ∷ by ann (RemoveRole editor) ∷ [])
    ≡ Some Reserved ∷ Some NotAdmin ∷ Some Absent ∷ Some NotEmpty ∷ [])
    × ((after_all crew (by bo (TakeRole bo editor) ∷ by ann (RemoveRole editor) ∷ [])).roles ≡ admin ∷ [])

abbrev pub GiftRow : Type 0
GiftRow =
    (refusals crew (by bo (GiveRole cy editor) ∷ by ann (GiveRole di editor) ∷ by ann (GiveRole cy (codes "guide")) ∷ by ann (GiveRole bo editor) ∷ by ann (GiveRole cy editor) ∷ [])
    ≡ Some NotAdmin ∷ Some Absent ∷ Some Absent ∷ Some Present ∷ None ∷ [])
    × (refusals crew (by cy (TakeRole bo editor) ∷ by ann (TakeRole cy editor) ∷ by ann (TakeRole di editor) ∷ by ann (TakeRole ann admin) ∷ by bo (TakeRole bo editor) ∷ [])
    ≡ Some NotAdmin ∷ Some Absent ∷ Some Absent ∷ Some LastAdmin ∷ None ∷ [])
    × ((after_all crew (by ann (GiveRole bo admin) ∷ by ann (GiveRole cy editor) ∷ by ann (TakeRole ann admin) ∷ [])).members
    ≡ member ann [] ∷ member bo (admin ∷ editor ∷ []) ∷ member cy (editor ∷ []) ∷ [])

abbrev pub DeviceRow : Type 0
DeviceRow =
    (refusals crew (by ann (AddDevice bo []) ∷ by ann (AddDevice (32 ∷ []) []) ∷ by bo (AddDevice (21 ∷ []) []) ∷ []) ≡ Some Present ∷ Some WasRemoved ∷ None ∷ [])
    × (refusals (record crew { devices = crew.devices ++ replicate 6 (listed_device (9 ∷ []) [] bo) }) (by bo (AddDevice (21 ∷ []) []) ∷ []) ≡ None ∷ [])
    × (refusals (record crew { devices = crew.devices ++ replicate 7 (listed_device (9 ∷ []) [] bo) }) (by bo (AddDevice (21 ∷ []) []) ∷ []) ≡ Some TooMany ∷ [])
    × (refusals (record crew { devices = crew.devices ++ replicate 63 (unlisted (listed_device (9 ∷ []) [] bo)) }) (by bo (AddDevice (21 ∷ []) []) ∷ []) ≡ Some TooMany ∷ [])
    × (refusals crew (by bo (RemoveDevice cy cy) ∷ by ann (RemoveDevice bo cy) ∷ by ann (RemoveDevice cy (32 ∷ [])) ∷ by bo (RemoveDevice bo bo) ∷ by cy (RemoveDevice cy cy) ∷ [])
    ≡ Some NotAdmin ∷ Some Absent ∷ Some Absent ∷ Some LastDevice ∷ None ∷ [])

-- acts that change nothing by themselves
abbrev pub still_acts : List Entry
still_acts = by ann (Rotate Team) ∷ by ann Seal ∷ by bo Join ∷ []

-- nobody rotates what isn't live; a key of the team or of a role is an admin's to rotate, and one of a user is his own
abbrev pub RotationRow : Type 0
RotationRow =
    (refusals crew (by bo (Rotate (Role (codes "guide"))) ∷ by bo (Rotate Team) ∷ by bo (Rotate (Role editor)) ∷ by ann (Rotate (User bo)) ∷ by bo (Rotate (User bo)) ∷ by ann (Rotate Team) ∷ [])
    ≡ Some Absent ∷ Some NotAdmin ∷ Some NotAdmin ∷ Some NotYours ∷ None ∷ None ∷ [])
    × (refusals (record crew { currents = record { scope = Team; generation = 65533; public = [] } ∷ [] }) (by ann (Rotate Team) ∷ []) ≡ None ∷ [])
    × (refusals (record crew { currents = record { scope = Team; generation = 65534; public = [] } ∷ [] }) (by ann (Rotate Team) ∷ []) ≡ Some TooMany ∷ [])
    × (after_all crew still_acts ≡ crew)

abbrev pub TitleRow : Type 0
TitleRow = (refusals crew (by bo (Title (codes "Ours")) ∷ by ann (Title (codes "Low tide")) ∷ []) ≡ Some NotAdmin ∷ None ∷ [])
    × ((after_all crew (by ann (Title (codes "Low tide")) ∷ [])).title ≡ Some (codes "Low tide"))

-- an invitation of members by ann, with two uses and up to 5000, and one of devices by bo, with one use and without end
abbrev for_members : Invitation
for_members = opened_invitation (60 ∷ []) of_members ann 2 5000

abbrev for_devices : Invitation
for_devices = opened_invitation (61 ∷ []) of_devices bo 1 0

-- the tables of the crew, as `FoundingRow` has them, with invitations
abbrev crew_with : List Invitation → State
crew_with invitations = record {
  title = Some (codes "Reef crew");
  members = member ann (admin ∷ []) ∷ member bo (editor ∷ []) ∷ member cy [] ∷ [];
  roles = admin ∷ editor ∷ [];
  devices = listed_device ann [] ann ∷ listed_device bo [] bo ∷ listed_device cy [] cy ∷ listed_device (31 ∷ []) [] cy ∷ unlisted (listed_device (32 ∷ []) [] cy) ∷ [];
  invitations = invitations;
  currents = [];
  boxes = [];
}

-- both are open
abbrev inviting : State
inviting = crew_with (for_members ∷ for_devices ∷ [])

-- that of members is closed
abbrev revoked : State
revoked = crew_with (closed for_members ∷ for_devices ∷ [])

abbrev invite : Name → Act
invite id = InviteMember id 2 5000

abbrev invite_device : Name → Act
invite_device id = InviteDevice id 1 0

abbrev revoke : Name → Act
revoke id = Revoke of_members id

abbrev revoke_device : Name → Act
revoke_device id = Revoke of_devices id

-- only an admin invites members, and each one invites his own devices
abbrev pub InvitationRow : Type 0
InvitationRow = ((after_all (crew_with []) (by ann (invite (60 ∷ [])) ∷ [])).invitations ≡ for_members ∷ [])
    × ((after_all (crew_with (for_members ∷ [])) (by bo (invite_device (61 ∷ [])) ∷ [])).invitations ≡ for_members ∷ for_devices ∷ [])
    × (refusals inviting (by bo (invite (62 ∷ [])) ∷ by cy (invite_device (62 ∷ [])) ∷ by di (invite_device (62 ∷ [])) ∷ []) ≡ Some NotAdmin ∷ None ∷ Some NotListed ∷ [])

-- an invitation is never opened twice, whatever its kind
abbrev pub OpenedOnceRow : Type 0
OpenedOnceRow =
    (refusals inviting (by ann (invite (60 ∷ [])) ∷ by ann (invite (61 ∷ [])) ∷ by cy (invite_device (60 ∷ [])) ∷ []) ≡ Some Present ∷ Some Present ∷ Some Present ∷ [])
    × (refusals revoked (by ann (invite (60 ∷ [])) ∷ by bo (invite_device (60 ∷ [])) ∷ []) ≡ Some WasRemoved ∷ Some WasRemoved ∷ [])

-- so many are open at most
abbrev pub ManyInvitationsRow : Type 0
ManyInvitationsRow =
    (refusals (crew_with (replicate 255 for_members)) (by ann (invite (61 ∷ [])) ∷ by bo (invite_device (61 ∷ [])) ∷ []) ≡ None ∷ None ∷ [])
    × (refusals (crew_with (replicate 256 for_members)) (by ann (invite (61 ∷ [])) ∷ by bo (invite_device (61 ∷ [])) ∷ []) ≡ Some TooMany ∷ Some TooMany ∷ [])

-- an invitation of members is any admin's to revoke, and one of devices its owner's alone, also where the owner was removed
abbrev pub RevocationRow : Type 0
RevocationRow =
    (refusals inviting (by bo (revoke (60 ∷ [])) ∷ by bo (revoke (62 ∷ [])) ∷ by ann (revoke (61 ∷ [])) ∷ by ann (revoke (60 ∷ [])) ∷ []) ≡ Some NotAdmin ∷ Some NotAdmin ∷ Some NoInvite ∷ None ∷ [])
    × (refusals inviting (by ann (revoke_device (60 ∷ [])) ∷ by ann (revoke_device (61 ∷ [])) ∷ by bo (revoke_device (61 ∷ [])) ∷ []) ≡ Some NoInvite ∷ Some NotYours ∷ None ∷ [])
    × ((after_all inviting (by ann (revoke (60 ∷ [])) ∷ [])).invitations ≡ closed for_members ∷ for_devices ∷ [])
    × (refusals revoked (by ann (revoke (60 ∷ [])) ∷ []) ≡ Some NoInvite ∷ [])
    × (refusals (after_all revoked (by ann (RemoveMember bo) ∷ [])) (by ann (revoke_device (61 ∷ [])) ∷ []) ≡ Some NotYours ∷ [])

-- a proof that names a leaf: its number in four bytes, and then whatever the signature has
abbrev proof : ℕ → List ℕ
proof leaf = 0 ∷ 0 ∷ 0 ∷ leaf ∷ 9 ∷ []

abbrev at : ℕ → Entry → Entry
at time e = record e { time = time }

-- bo admits a user by a leaf of the invitation
abbrev admission : Name → ℕ → Entry
admission u leaf = by bo (AdmitMember u u [] (60 ∷ []) (proof leaf))

-- any member admits by an open invitation of members, up to the time of its expiry, and by each of its leaves once
abbrev pub AdmissionRow : Type 0
AdmissionRow =
    (refusals inviting (by bo (AdmitMember di di [] (61 ∷ []) (proof 0)) ∷ by bo (AdmitMember di di [] (62 ∷ []) (proof 0)) ∷ at 5001 (admission di 0) ∷ at 5001 (admission di 2) ∷ at 5000 (admission di 0) ∷ [])
    ≡ Some NoInvite ∷ Some NoInvite ∷ Some Expired ∷ Some Expired ∷ None ∷ [])
    × (refusals inviting (admission di 2 ∷ admission di 32 ∷ by bo (AdmitMember di di [] (60 ∷ []) (0 ∷ 0 ∷ 0 ∷ [])) ∷ by bo (AdmitMember di di [] (60 ∷ []) []) ∷ admission bo 2 ∷ [])
    ≡ Some Spent ∷ Some Spent ∷ Some Spent ∷ Some Spent ∷ Some Spent ∷ [])
    × (refusals inviting (admission bo 1 ∷ by bo (AdmitMember di bo [] (60 ∷ []) (proof 1)) ∷ by bo (AdmitMember di (32 ∷ []) [] (60 ∷ []) (proof 1)) ∷ admission di 1 ∷ []) ≡ Some Present ∷ Some Present ∷ Some WasRemoved ∷ None ∷ [])
    × (refusals (many_devices 64 inviting) (admission di 1 ∷ []) ≡ Some TooMany ∷ [])

-- what an admission does: the leaf is used, and the user comes as with an addition
abbrev pub AdmittedRow : Type 0
AdmittedRow = ((after_all inviting (admission di 1 ∷ [])).invitations ≡ used_at 1 for_members ∷ for_devices ∷ [])
    × ((after_all inviting (admission di 1 ∷ [])).members ≡ (after_all inviting (by ann (add di) ∷ [])).members)
    × ((after_all inviting (admission di 1 ∷ [])).devices ≡ (after_all inviting (by ann (add di) ∷ [])).devices)
    × (refusals (crew_with (used_at 1 for_members ∷ [])) (admission (5 ∷ []) 1 ∷ admission (5 ∷ []) 0 ∷ []) ≡ Some Spent ∷ None ∷ [])
    × (map (λ i. i.used) (after_all (crew_with (used_at 1 for_members ∷ [])) (admission (5 ∷ []) 0 ∷ [])).invitations ≡ 3 ∷ [])
    × (refusals revoked (admission di 0 ∷ []) ≡ Some NoInvite ∷ [])

-- a user admits a device
abbrev device_admission : Name → Name → Name → ℕ → Entry
device_admission u device id leaf = by u (AdmitDevice device [] id (proof leaf))

-- a device is admitted by its owner, by an open invitation of his devices
abbrev pub DeviceAdmissionRow : Type 0
DeviceAdmissionRow =
    (refusals inviting (device_admission bo (21 ∷ []) (60 ∷ []) 0 ∷ device_admission ann (21 ∷ []) (61 ∷ []) 0 ∷ device_admission ann (21 ∷ []) (61 ∷ []) 1 ∷ device_admission bo (21 ∷ []) (61 ∷ []) 1
    ∷ device_admission bo bo (61 ∷ []) 0 ∷ device_admission bo (32 ∷ []) (61 ∷ []) 0 ∷ device_admission bo (21 ∷ []) (61 ∷ []) 0 ∷ [])
    ≡ Some NoInvite ∷ Some NotYours ∷ Some NotYours ∷ Some Spent ∷ Some Present ∷ Some WasRemoved ∷ None ∷ [])
    × ((after_all inviting (device_admission bo (21 ∷ []) (61 ∷ []) 0 ∷ [])).invitations ≡ for_members ∷ used_at 0 for_devices ∷ [])
    × ((after_all inviting (device_admission bo (21 ∷ []) (61 ∷ []) 0 ∷ [])).devices ≡ (after_all inviting (by bo (AddDevice (21 ∷ []) []) ∷ [])).devices)
