-- The act table: when an act is refused, and what it does.
use Rattle.std.specs.Prelude.{ℕ, ◌^◌, ◌/◌, ◌%◌, ◌==◌, Bool, true, false, not, ◌&&◌, ◌||◌, if◌then◌else◌, nat_le, nat_lt, List, [], ◌∷◌, length, Option, Some, None, is_none}
use Rattle.std.specs.Option.{option_map_or}
use Rattle.sha2.specs.Sha256.{sha256}
use Rattle.team_sets.specs.Names.{Name, has_name, same_name}
use Rattle.tg_text.specs.Spelling.{number_at}
use Rattle.tg_text.specs.declared.keys.Scope.{Scope}
use Rattle.tg_text.specs.declared.keys.Scope.TheVariants.{User}
use Rattle.key_reach.specs.Keys.{is_live}
use Rattle.team_model.specs.KeyLines.{lined}
use Rattle.team_model.specs.KeyTables.{current_key, key_table}
use Rattle.team_model.specs.Limits.{invitation_leaves, last_generation, most_devices, most_devices_ever, most_invitations, most_members, most_roles}
use Rattle.team_model.specs.State.{State, is_empty_state, admin, devices_ever, devices_listed, has_other_device, has_role, invitation_row, is_admin, is_given, is_listed, is_only_admin, lists_user, lists_device, open_invitations, roles_of, was_listed}
use Rattle.team_model.specs.State.{drop_row, put_name}
use Rattle.team_model.specs.Writes.{listed_device, opened_invitation, with_closed, with_device, with_invitation, with_leaf_used, with_newcomer, with_role, with_roles, with_title, without_device, without_member, without_role}
use Rattle.acts.specs.Admin.{is_another, is_of_members, is_shared}
use Rattle.acts.specs.declared.entry.Act.{Act}
use Rattle.acts.specs.declared.entry.Act.TheVariants.{Found, AddMember, RemoveMember, AddRole, RemoveRole, GiveRole, TakeRole, AddDevice, RemoveDevice, InviteMember, InviteDevice, Revoke, AdmitMember, AdmitDevice, Rotate, Seal, Title, Join}
use Rattle.acts.specs.declared.entry.Entry.{Entry}
use Rattle.acts.specs.declared.entry.InviteKind.{InviteKind}
use Rattle.acts.specs.declared.entry.InviteKind.TheVariants.{Member, Device}
use Rattle.team_model.specs.declared.terms.Invitation.{Invitation}
use Rattle.team_model.specs.declared.terms.Reason.{Reason}
use Rattle.team_model.specs.declared.terms.Reason.TheVariants.{NotListed, NotAdmin, NotYours, Present, Absent, LastAdmin, LastDevice, WasRemoved, NoInvite, Spent, Expired, TooMany, Reserved, NotEmpty}

-- the first reason whose condition holds
abbrev pub first_reason : List (Bool × Reason) → Option Reason
first_reason [] = None
first_reason (c ∷ rest) = if c.0 then Some c.1 else first_reason rest

abbrev pub is_found : Act → Bool
is_found (Found seal title) = true
is_found _ = false

abbrev pub lacks_admin : State → Entry → Bool
lacks_admin s e = not (is_admin s e.user)

-- whether the author acts on another user, and is no admin
abbrev pub meddles : State → Entry → Name → Bool
meddles s e user = is_another user e && lacks_admin s e

-- why a new member with a first device is refused
abbrev pub newcomer_conditions : State → Name → Name → List (Bool × Reason)
newcomer_conditions s user device =
    (lists_user s user || is_listed s device, Present) ∷ (was_listed s device, WasRemoved)
    ∷ (nat_le most_members (length s.members) || nat_le most_devices_ever (devices_ever s user), TooMany) ∷ []

-- why a further device of a user is refused
abbrev pub device_conditions : State → Name → Name → List (Bool × Reason)
device_conditions s user device =
    (is_listed s device, Present) ∷ (was_listed s device, WasRemoved)
    ∷ (nat_le most_devices (devices_listed s user) || nat_le most_devices_ever (devices_ever s user), TooMany) ∷ []

-- whether the scope is another user's
abbrev pub is_anothers : Scope → Entry → Bool
is_anothers (User user) e = is_another user e
is_anothers _ e = false

-- whether no generation is left for the scope
abbrev pub is_at_end : State → Scope → Bool
is_at_end s scope = option_map_or (λ k. nat_le last_generation k.generation) (current_key s scope) false

abbrev pub same_kind : InviteKind → InviteKind → Bool
same_kind Member kind = is_of_members kind
same_kind Device kind = not (is_of_members kind)

-- whether an invitation is open, and of this kind
abbrev pub is_open_for : InviteKind → Invitation → Bool
is_open_for kind i = not i.closed && same_kind kind i.kind

-- the leaf that a proof names: its first four bytes, as a number. One that is shorter names none, nor does one whose number is
-- that of no leaf
abbrev pub leaf_of : List ℕ → Option ℕ
leaf_of proof = if nat_le 4 (length proof) && nat_lt (number_at 0 proof) invitation_leaves then Some (number_at 0 proof) else None

-- whether the leaf is used already, or isn't below the uses
abbrev pub is_gone : Invitation → ℕ → Bool
is_gone i leaf = nat_le i.uses leaf || (i.used / 2 ^ leaf % 2 == 1)

-- whether a proof names no leaf that is still to be used
abbrev pub is_spent : List ℕ → Invitation → Bool
is_spent proof i = option_map_or (is_gone i) (leaf_of proof) true

-- whether the time is past an invitation's expiry, where it has one
abbrev pub is_expired : ℕ → Invitation → Bool
is_expired time i = not (i.expiry == 0) && nat_lt i.expiry time

-- whether it is so of the invitation with this id, if there ever was one
abbrev pub so_of : State → Name → (Invitation → Bool) → Bool
so_of s id p = option_map_or p (invitation_row s id) false

-- why a new invitation is refused
abbrev pub invitation_conditions : State → Name → List (Bool × Reason)
invitation_conditions s id =
    (so_of s id (λ i. not i.closed), Present) ∷ (so_of s id (λ i. i.closed), WasRemoved) ∷ (nat_le most_invitations (open_invitations s), TooMany) ∷ []

-- the leaf that a proof names is used, if it names one
abbrev pub with_proof_used : State → Name → List ℕ → State
with_proof_used s id proof = option_map_or (λ leaf. with_leaf_used s id leaf) (leaf_of proof) s

-- the ids of the device that an act lists and of the invitation that it names are made of their keys: in a team by SHA-256, and in
-- worked examples by whatever suits them
module _ (id_of : List ℕ → Name) where
  -- the conditions of a row of the table, in their order
  abbrev pub row_of : State → Entry → Act → List (Bool × Reason)
  row_of s e (Found seal title) = (not (is_empty_state s), Present) ∷ []
  row_of s e (AddMember user key seal) = (lacks_admin s e, NotAdmin) ∷ newcomer_conditions s user (id_of key)
  row_of s e (RemoveMember user) = (meddles s e user, NotAdmin) ∷ (not (lists_user s user), Absent) ∷ (is_only_admin s user, LastAdmin) ∷ []
  row_of s e (AddRole role) =
      (same_name role admin, Reserved) ∷ (lacks_admin s e, NotAdmin) ∷ (has_name s.roles role, Present)
      ∷ (nat_le most_roles (length s.roles), TooMany) ∷ []
  row_of s e (RemoveRole role) =
      (same_name role admin, Reserved) ∷ (lacks_admin s e, NotAdmin) ∷ (not (has_name s.roles role), Absent) ∷ (is_given s role, NotEmpty) ∷ []
  row_of s e (GiveRole user role) =
      (lacks_admin s e, NotAdmin) ∷ (not (lists_user s user && has_name s.roles role), Absent) ∷ (has_role s user role, Present) ∷ []
  row_of s e (TakeRole user role) =
      (meddles s e user, NotAdmin) ∷ (not (has_role s user role), Absent) ∷ (same_name role admin && is_only_admin s user, LastAdmin) ∷ []
  row_of s e (AddDevice key seal) = device_conditions s e.user (id_of key)
  row_of s e (RemoveDevice user id) =
      (meddles s e user, NotAdmin) ∷ (not (lists_device s user id), Absent) ∷ (not (has_other_device s user id), LastDevice) ∷ []
  row_of s e (InviteMember key uses expiry) = (lacks_admin s e, NotAdmin) ∷ invitation_conditions s (id_of key)
  row_of s e (InviteDevice key uses expiry) = invitation_conditions s (id_of key)
  row_of s e (Revoke kind id) =
      (is_of_members kind && lacks_admin s e, NotAdmin) ∷ (not (so_of s id (is_open_for kind)), NoInvite)
      ∷ (not (is_of_members kind) && so_of s id (λ i. is_another i.user e), NotYours) ∷ []
  row_of s e (AdmitMember user key seal by proof) =
      (not (so_of s (id_of by) (is_open_for Member)), NoInvite) ∷ (so_of s (id_of by) (is_expired e.time), Expired)
      ∷ (so_of s (id_of by) (is_spent proof), Spent) ∷ newcomer_conditions s user (id_of key)
  row_of s e (AdmitDevice key seal by proof) =
      (not (so_of s (id_of by) (is_open_for Device)), NoInvite) ∷ (so_of s (id_of by) (λ i. is_another i.user e), NotYours)
      ∷ (so_of s (id_of by) (is_expired e.time), Expired) ∷ (so_of s (id_of by) (is_spent proof), Spent) ∷ device_conditions s e.user (id_of key)
  row_of s e (Rotate scope) =
      (not (is_live (key_table s) scope), Absent) ∷ (is_shared scope && lacks_admin s e, NotAdmin) ∷ (is_anothers scope e, NotYours)
      ∷ (is_at_end s scope, TooMany) ∷ []
  row_of s e Seal = []
  row_of s e (Title title) = (lacks_admin s e, NotAdmin) ∷ []
  row_of s e Join = []

  -- each act but `found` is refused first where the author isn't listed, or the author's device isn't listed for the author
  abbrev pub conditions_by : State → Entry → Act → List (Bool × Reason)
  conditions_by s e a =
      if is_found a then row_of s e a else (not (lists_user s e.user && lists_device s e.user e.device), NotListed) ∷ row_of s e a

  abbrev pub refusal_by : State → Entry → Option Reason
  refusal_by s e = first_reason (conditions_by s e e.act)

  -- what an act does by itself
  abbrev pub effect_by : State → Entry → Act → State
  effect_by s e (Found seal title) =
      with_device (with_roles (with_role (with_title s title) admin) e.user (admin ∷ [])) (listed_device e.device seal e.user)
  effect_by s e (AddMember user key seal) = with_newcomer s user (id_of key) seal
  effect_by s e (RemoveMember user) = without_member s user
  effect_by s e (AddRole role) = with_role s role
  effect_by s e (RemoveRole role) = without_role s role
  effect_by s e (GiveRole user role) = with_roles s user (put_name role (roles_of s user))
  effect_by s e (TakeRole user role) = with_roles s user (drop_row (λ r. r) role (roles_of s user))
  effect_by s e (AddDevice key seal) = with_device s (listed_device (id_of key) seal e.user)
  effect_by s e (RemoveDevice user id) = without_device s id
  effect_by s e (InviteMember key uses expiry) = with_invitation s (opened_invitation (id_of key) Member e.user uses expiry)
  effect_by s e (InviteDevice key uses expiry) = with_invitation s (opened_invitation (id_of key) Device e.user uses expiry)
  effect_by s e (Revoke kind id) = with_closed s id
  effect_by s e (AdmitMember user key seal by proof) = with_newcomer (with_proof_used s (id_of by) proof) user (id_of key) seal
  effect_by s e (AdmitDevice key seal by proof) = with_device (with_proof_used s (id_of by) proof) (listed_device (id_of key) seal e.user)
  effect_by s e (Rotate scope) = s
  effect_by s e Seal = s
  effect_by s e (Title title) = with_title s title
  effect_by s e Join = s

  -- the key lines that fit are taken after the act's own effect
  abbrev pub after_by : State → Entry → State
  after_by s e = if is_none (refusal_by s e) then lined (effect_by s e e.act) e else s

-- why an entry is refused, if it is
abbrev pub refusal : State → Entry → Option Reason
refusal s e = refusal_by sha256 s e

-- what an act does by itself
abbrev pub effect : State → Entry → Act → State
effect s e a = effect_by sha256 s e a

-- the state after an entry: the state itself where it isn't permitted
abbrev pub after : State → Entry → State
after s e = after_by sha256 s e
