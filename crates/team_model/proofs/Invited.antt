-- What a write of an invitation leaves as it is: all but the invitations.
use Rattle.std.proofs.Common.{◌≡◌, ℕ, List, Option, Some, None, refl, ap}
use Rattle.std.specs.Option.{option_map_or}
use Rattle.team_sets.specs.Names.{Name}
use Rattle.team_model.specs.ActTable.{leaf_of, with_proof_used}
use Rattle.team_model.specs.State.{State, invitation_row, put_row}
use Rattle.team_model.specs.Writes.{closed, used_at, with_closed, with_invitation, with_leaf_used}
use Rattle.team_model.specs.declared.terms.Invitation.{Invitation}

-- a state differs from another in its invitations alone
abbrev pub InvitesOnly : State → State → Type 0
InvitesOnly s t = (rows : List Invitation) × (t ≡ record s { invitations = rows })

module _ (s : State) where
  pub closed-only : (id : Name) → InvitesOnly s (with_closed s id)
  closed-only id = go (invitation_row s id)
    where
      go : (o : Option Invitation) → InvitesOnly s (option_map_or (λ i. with_invitation s (closed i)) o s)
      go (Some i) = (put_row (λ i. i.id) (closed i) s.invitations, refl)
      go None = (s.invitations, refl)

  pub leaf_used-only : (id : Name) (leaf : ℕ) → InvitesOnly s (with_leaf_used s id leaf)
  leaf_used-only id leaf = go (invitation_row s id)
    where
      go : (o : Option Invitation) → InvitesOnly s (option_map_or (λ i. with_invitation s (used_at leaf i)) o s)
      go (Some i) = (put_row (λ i. i.id) (used_at leaf i) s.invitations, refl)
      go None = (s.invitations, refl)

  pub proof_used-only : (id : Name) (proof : List ℕ) → InvitesOnly s (with_proof_used s id proof)
  proof_used-only id proof = go (leaf_of proof)
    where
      go : (o : Option ℕ) → InvitesOnly s (option_map_or (λ leaf. with_leaf_used s id leaf) o s)
      go (Some leaf) = leaf_used-only id leaf
      go None = (s.invitations, refl)

-- so the members and the devices are the same
pub same_members : (s t : State) → InvitesOnly s t → t.members ≡ s.members
same_members s t only = ap (λ (r : State). r.members) only.1

pub same_devices : (s t : State) → InvitesOnly s t → t.devices ≡ s.devices
same_devices s t only = ap (λ (r : State). r.devices) only.1
