-- What holds of a founded team stays so where its invitations are written.
use Rattle.std.proofs.Common.{◌≡◌, ℕ, ◌&&◌, true, false, List, Option, Some, None, sym, subst}
use Rattle.std.specs.List.{list_any}
use Rattle.std.specs.Option.{option_map_or}
use Rattle.team_sets.specs.Names.{Name, same_name}
use Rattle.team_model.specs.ActTable.{leaf_of, with_proof_used}
use Rattle.team_model.specs.KeyTables.{all_keys, live_scopes}
use Rattle.team_model.specs.State.{State, invitation_row, lists_device, lists_user, was_listed}
use Rattle.team_model.specs.Writes.{closed, used_at, with_closed, with_invitation, with_leaf_used}
use Rattle.team_model.specs.declared.terms.Device.{Device}
use Rattle.team_model.specs.declared.terms.Invitation.{Invitation}
use Rattle.team_model.specs.declared.terms.Member.{Member}
use Rattle.team_model.proofs.Invited.{InvitesOnly, proof_used-only, same_devices, same_members}
use Rattle.team_state.proofs.Written as kept
use Rattle.team_reducer.proofs.Firm.{Firm, kept_of}

module _ (s : State) (firm : Firm s) where
  pub firm-invitation : (i : Invitation) → Firm (with_invitation s i)
  firm-invitation i = record {
    ordered = (kept.kept-invitation s (all_keys s) (live_scopes s) (kept_of s firm.ordered) i).ordered;
    roles_rise = firm.roles_rise;
    administered = firm.administered;
    equipped = firm.equipped;
    few_roles = firm.few_roles;
  }

  pub firm-closed : (id : Name) → Firm (with_closed s id)
  firm-closed id = go (invitation_row s id)
    where
      go : (o : Option Invitation) → Firm (option_map_or (λ i. with_invitation s (closed i)) o s)
      go (Some i) = firm-invitation (closed i)
      go None = firm

  firm-leaf_used : (id : Name) (leaf : ℕ) → Firm (with_leaf_used s id leaf)
  firm-leaf_used id leaf = go (invitation_row s id)
    where
      go : (o : Option Invitation) → Firm (option_map_or (λ i. with_invitation s (used_at leaf i)) o s)
      go (Some i) = firm-invitation (used_at leaf i)
      go None = firm

  pub firm-proof_used : (id : Name) (proof : List ℕ) → Firm (with_proof_used s id proof)
  firm-proof_used id proof = go (leaf_of proof)
    where
      go : (o : Option ℕ) → Firm (option_map_or (λ leaf. with_leaf_used s id leaf) o s)
      go (Some leaf) = firm-leaf_used id leaf
      go None = firm

-- what differs in its invitations alone lists the same users and devices
module _ (s t : State) (only : InvitesOnly s t) where
  pub still_lists : (u : Name) → lists_user s u ≡ true → lists_user t u ≡ true
  still_lists u h = subst (λ (ms : List Member). list_any (λ m. same_name m.user u) ms ≡ true) (sym (same_members s t only)) h

  pub still_lists_device : (u d : Name) → lists_device s u d ≡ true → lists_device t u d ≡ true
  still_lists_device u d h = subst (λ (ds : List Device). list_any (λ x. x.listed && same_name x.id d && same_name x.user u) ds ≡ true) (sym (same_devices s t only)) h

-- a leaf that is used lists nobody and no device
module _ (s : State) (id : Name) (proof : List ℕ) where
  pub still_absent : (u : Name) → lists_user s u ≡ false → lists_user (with_proof_used s id proof) u ≡ false
  still_absent u h = subst (λ (ms : List Member). list_any (λ m. same_name m.user u) ms ≡ false) (sym (same_members s (with_proof_used s id proof) (proof_used-only s id proof))) h

  pub still_new : (d : Name) → was_listed s d ≡ false → was_listed (with_proof_used s id proof) d ≡ false
  still_new d h = subst (λ (ds : List Device). list_any (λ x. same_name x.id d) ds ≡ false) (sym (same_devices s (with_proof_used s id proof) (proof_used-only s id proof))) h
