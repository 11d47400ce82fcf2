-- Which entries only an admin may write.
use Rattle.std.specs.Prelude.{ℕ, Bool, true, false, not, nat_eq, List}
use Rattle.std.specs.Cmp.Lexicographic.{pointwise}
use Rattle.tg_text.specs.declared.keys.Scope.{Scope}
use Rattle.tg_text.specs.declared.keys.Scope.TheVariants.{Team, Role, User, Device as DeviceScope}
use Rattle.acts.specs.declared.entry.Act.{Act}
use Rattle.acts.specs.declared.entry.Act.TheVariants.{Found, AddMember, RemoveMember, AddRole, RemoveRole, GiveRole, TakeRole, AddDevice, RemoveDevice, InviteMember, InviteDevice, Revoke, AdmitMember, AdmitDevice, Rotate, Seal, Title, Join}
use Rattle.acts.specs.declared.entry.Entry.{Entry}
use Rattle.acts.specs.declared.entry.InviteKind.{InviteKind}
use Rattle.acts.specs.declared.entry.InviteKind.TheVariants.{Member, Device}

-- a key of the team or of a role is everybody's, one of a user is his own
abbrev pub is_shared : Scope → Bool
is_shared Team = true
is_shared (Role role) = true
is_shared (User user) = false
is_shared (DeviceScope id) = false

abbrev pub is_of_members : InviteKind → Bool
is_of_members Member = true
is_of_members Device = false

abbrev pub is_another : List ℕ → Entry → Bool
is_another user e = not (pointwise nat_eq user e.user)

-- who isn't an admin may remove himself and his devices, and lay down his roles
abbrev pub needs_admin_for : Entry → Act → Bool
needs_admin_for e (Found seal title) = false
needs_admin_for e (AddMember user key seal) = true
needs_admin_for e (RemoveMember user) = is_another user e
needs_admin_for e (AddRole role) = true
needs_admin_for e (RemoveRole role) = true
needs_admin_for e (GiveRole user role) = true
needs_admin_for e (TakeRole user role) = is_another user e
needs_admin_for e (AddDevice key seal) = false
needs_admin_for e (RemoveDevice user id) = is_another user e
needs_admin_for e (InviteMember key uses expiry) = true
needs_admin_for e (InviteDevice key uses expiry) = false
needs_admin_for e (Revoke kind id) = is_of_members kind
needs_admin_for e (AdmitMember user key seal by proof) = false
needs_admin_for e (AdmitDevice key seal by proof) = false
needs_admin_for e (Rotate scope) = is_shared scope
needs_admin_for e Seal = false
needs_admin_for e (Title title) = true
needs_admin_for e Join = false

abbrev pub needs_admin : Entry → Bool
needs_admin e = needs_admin_for e e.act
