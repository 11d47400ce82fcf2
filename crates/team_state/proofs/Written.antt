-- What is kept of a state stays kept where its tables are written.
use Rattle.std.proofs.Common.{◌≡◌, ℕ, Bool, true, false, not, List, [], ◌∷◌, ◌++◌, map, filter, if◌then◌else◌, refl, sym, ◌∙◌, ap, subst}
use Rattle.std.specs.List.Sorted.{IsStrictlySortedBy}
use Rattle.std.specs.Cmp.Lexicographic.{nat_list_cmp_total, texts_ties}
use Rattle.team_sets.specs.Members.{IsIn}
use Rattle.team_sets.specs.Names.{Name, same_name}
use Rattle.tg_text.specs.Order.{scope_cmp}
use Rattle.tg_text.specs.declared.keys.Scope.{Scope}
use Rattle.tg_text.specs.declared.keys.Scope.TheVariants.{Team, Role, User, Device as DeviceScope}
use Rattle.tg_text.specs.declared.keys.KeyId.{KeyId}
use Rattle.tg_text.specs.declared.keys.BoxLine.{BoxLine}
use Rattle.key_reach.specs.Keys.{is_device, same_scope}
use Rattle.team_model.specs.declared.terms.Member.{Member}
use Rattle.team_model.specs.declared.terms.Device.{Device}
use Rattle.team_model.specs.declared.terms.Invitation.{Invitation}
use Rattle.team_model.specs.State.{State, empty_state}
use Rattle.team_model.specs.KeyTables.{all_keys, key_of_device, live_scopes, scope_of_device}
use Rattle.team_model.specs.Writes as after
use Rattle.team_model.specs.Writes.{unlist_of}
use Rattle.team_model.proofs.Brought.{in_map}
use Rattle.team_state.specs.Rows.{Ascend, is_before, with_row}
use Rattle.team_state.specs.Kept.{IsKept, device_scopes, keeps_scope, stays_listed, name_cmp, state_of, without_devices}
use Rattle.team_state.proofs.Listed.{all_put_in, in_back}
use Rattle.team_state.proofs.Placed.{all-filter, put-again, with-ascends, without-ascends}
use Rattle.team_state.proofs.Ascending.{currents-before, keys-ascend, keys-with_device, keys-with_key, scope_of_key, scopes-ascend}
use Rattle.team_state.proofs.Scopes as scopes
use Rattle.team_state.proofs.Scopes.{itself, scopes-tie, scopes-total, with_scope, without_scope}

pub kept-empty : IsKept empty_state [] []
unfolding IsStrictlySortedBy
kept-empty = record {
  ordered = record { members = tt; roles = tt; devices = tt; invitations = tt; currents = tt; others = tt };
  keys_are = refl;
  scopes_are = refl;
}

-- the same with the current keys read from all keys
pub currents-are : (s : State) (keys : List KeyId) (live : List Scope) → IsKept s keys live → without_devices keys s.devices ≡ s.currents
currents-are s keys live kept = ap (λ all. without_devices all s.devices) kept.keys_are ∙ currents-before s.currents s.devices

pub kept-read : (s : State) (keys : List KeyId) (live : List Scope) → IsKept s keys live → IsKept (state_of s.title s.members s.roles s.devices s.invitations keys s.boxes) keys live
kept-read s keys live kept = subst (λ currents. IsKept (record s { currents = currents }) keys live) (sym (currents-are s keys live kept)) kept

pub state-read : (s : State) (keys : List KeyId) (live : List Scope) → IsKept s keys live → state_of s.title s.members s.roles s.devices s.invitations keys s.boxes ≡ s
state-read s keys live kept = ap (λ currents. record s { currents = currents }) (currents-are s keys live kept)

module _ (s : State) (keys : List KeyId) (live : List Scope) (kept : IsKept s keys live) where
  pub live-ascend : Ascend scope_cmp itself live
  live-ascend = subst (λ all. Ascend scope_cmp itself all) (sym kept.scopes_are) (scopes-ascend s kept.ordered)

  pub keys-ascend-kept : Ascend scope_cmp scope_of_key keys
  keys-ascend-kept = subst (λ all. Ascend scope_cmp scope_of_key all) (sym kept.keys_are) (keys-ascend s kept.ordered)

  pub kept-title : (t : List ℕ) → IsKept (after.with_title s t) keys (with_scope Team live)
  kept-title t = record {
    ordered = record { members = kept.ordered.members; roles = kept.ordered.roles; devices = kept.ordered.devices; invitations = kept.ordered.invitations; currents = kept.ordered.currents; others = kept.ordered.others };
    keys_are = kept.keys_are;
    scopes_are = ap (with_scope Team) kept.scopes_are ∙ scopes.scopes-with_title s t;
  }

  pub kept-member : (m : Member) → IsKept (after.with_member s m) keys (with_scope (User m.user) live)
  kept-member m = record {
    ordered = record {
      members = with-ascends name_cmp same_name (λ n. n.user) nat_list_cmp_total texts_ties m s.members kept.ordered.members;
      roles = kept.ordered.roles;
      devices = kept.ordered.devices;
      invitations = kept.ordered.invitations;
      currents = kept.ordered.currents;
      others = kept.ordered.others;
    };
    keys_are = kept.keys_are;
    scopes_are = ap (with_scope (User m.user)) kept.scopes_are ∙ scopes.scopes-with_member s m;
  }

  pub kept-role : (r : Name) → IsKept (after.with_role s r) keys (with_scope (Role r) live)
  kept-role r = record {
    ordered = record {
      roles = with-ascends name_cmp same_name (λ n. n) nat_list_cmp_total texts_ties r s.roles kept.ordered.roles;
      members = kept.ordered.members;
      devices = kept.ordered.devices;
      invitations = kept.ordered.invitations;
      currents = kept.ordered.currents;
      others = kept.ordered.others;
    };
    keys_are = kept.keys_are;
    scopes_are = ap (with_scope (Role r)) kept.scopes_are ∙ scopes.scopes-with_role s r;
  }

  pub kept-without_role : (r : Name) → IsKept (after.without_role s r) keys (without_scope (Role r) live)
  kept-without_role r = record {
    ordered = record {
      roles = without-ascends name_cmp same_name (λ n. n) nat_list_cmp_total texts_ties r s.roles kept.ordered.roles;
      members = kept.ordered.members;
      devices = kept.ordered.devices;
      invitations = kept.ordered.invitations;
      currents = kept.ordered.currents;
      others = kept.ordered.others;
    };
    keys_are = kept.keys_are;
    scopes_are = ap (without_scope (Role r)) kept.scopes_are ∙ scopes.scopes-without_role s r;
  }

  pub kept-invitation : (i : Invitation) → IsKept (after.with_invitation s i) keys live
  kept-invitation i = record {
    ordered = record {
      invitations = with-ascends name_cmp same_name (λ n. n.id) nat_list_cmp_total texts_ties i s.invitations kept.ordered.invitations;
      members = kept.ordered.members;
      roles = kept.ordered.roles;
      devices = kept.ordered.devices;
      currents = kept.ordered.currents;
      others = kept.ordered.others;
    };
    keys_are = kept.keys_are;
    scopes_are = kept.scopes_are;
  }

  pub kept-box : (b : BoxLine) → IsKept (after.with_box s b) keys live
  kept-box b = record {
    ordered = record { members = kept.ordered.members; roles = kept.ordered.roles; devices = kept.ordered.devices; invitations = kept.ordered.invitations; currents = kept.ordered.currents; others = kept.ordered.others };
    keys_are = kept.keys_are;
    scopes_are = kept.scopes_are;
  }

  pub kept-boxes : (bs : List BoxLine) → IsKept (after.with_boxes s bs) keys live
  kept-boxes bs = record {
    ordered = record { members = kept.ordered.members; roles = kept.ordered.roles; devices = kept.ordered.devices; invitations = kept.ordered.invitations; currents = kept.ordered.currents; others = kept.ordered.others };
    keys_are = kept.keys_are;
    scopes_are = kept.scopes_are;
  }

  pub kept-key : (k : KeyId) → is_device k.scope ≡ false → IsKept (after.with_key s k) (with_row scope_cmp same_scope scope_of_key k keys) live
  kept-key k other = record {
    ordered = record {
      currents = with-ascends scope_cmp same_scope scope_of_key scopes-total scopes-tie k s.currents kept.ordered.currents;
      others = all_put_in (λ (j : KeyId). is_device j.scope ≡ false) (is_before scope_cmp scope_of_key) k (filter (λ j. not (same_scope j.scope k.scope)) s.currents) other (all-filter (λ (j : KeyId). is_device j.scope ≡ false) (λ j. not (same_scope j.scope k.scope)) s.currents kept.ordered.others);
      members = kept.ordered.members;
      roles = kept.ordered.roles;
      devices = kept.ordered.devices;
      invitations = kept.ordered.invitations;
    };
    keys_are = ap (with_row scope_cmp same_scope scope_of_key k) kept.keys_are ∙ keys-with_key s kept.ordered k other;
    scopes_are = kept.scopes_are;
  }

  pub kept-device : (d : Device) → IsKept (after.with_device s d) (with_row scope_cmp same_scope scope_of_key (key_of_device d) keys) (device_scopes d live)
  kept-device d = record {
    ordered = record {
      devices = with-ascends name_cmp same_name (λ n. n.id) nat_list_cmp_total texts_ties d s.devices kept.ordered.devices;
      members = kept.ordered.members;
      roles = kept.ordered.roles;
      invitations = kept.ordered.invitations;
      currents = kept.ordered.currents;
      others = kept.ordered.others;
    };
    keys_are = ap (with_row scope_cmp same_scope scope_of_key (key_of_device d)) kept.keys_are ∙ keys-with_device s kept.ordered d;
    scopes_are = go d.listed refl;
  }
    where
      go : (b : Bool) → d.listed ≡ b → (if b then with_scope (DeviceScope d.id) live else without_scope (DeviceScope d.id) live) ≡ live_scopes (after.with_device s d)
      go true e = ap (with_scope (DeviceScope d.id)) kept.scopes_are ∙ scopes.scopes-with_listed s d kept.ordered.devices e
      go false e = ap (without_scope (DeviceScope d.id)) kept.scopes_are ∙ scopes.scopes-with_unlisted s d e

  -- a device that was ever listed and isn't any more: its key stays, and its scope goes
  pub kept-unlisted : (d : Device) → IsIn d s.devices → IsKept (after.with_device s (after.unlisted d)) keys (without_scope (DeviceScope d.id) live)
  kept-unlisted d k =
      subst (λ all. IsKept (after.with_device s (after.unlisted d)) all (without_scope (DeviceScope d.id) live)) same (kept-device (after.unlisted d))
    where
      same : with_row scope_cmp same_scope scope_of_key (key_of_device d) keys ≡ keys
      same =
          subst (λ all. with_row scope_cmp same_scope scope_of_key (key_of_device d) all ≡ all) (sym kept.keys_are)
          (put-again scope_cmp same_scope scope_of_key scopes-total scopes-tie (key_of_device d) (all_keys s) (keys-ascend s kept.ordered)
          (in_back s.currents (map key_of_device s.devices) (key_of_device d) (in_map key_of_device s.devices d k)))

  unlisted_keys : (u : Name) (ds : List Device) → map key_of_device (map (unlist_of u) ds) ≡ map key_of_device ds
  unlisted_keys u [] = refl
  unlisted_keys u (d ∷ ds) = go (same_name d.user u) refl (unlisted_keys u ds)
    where
      go : (b : Bool) → same_name d.user u ≡ b → map key_of_device (map (unlist_of u) ds) ≡ map key_of_device ds → map key_of_device (map (unlist_of u) (d ∷ ds)) ≡ map key_of_device (d ∷ ds)
      go true e rest = rw e (ap (λ more. key_of_device d ∷ more) rest)
      go false e rest = rw e (ap (λ more. key_of_device d ∷ more) rest)

  unlisted_ids : (u : Name) (ds : List Device) → map (λ (d : Device). d.id) (map (unlist_of u) ds) ≡ map (λ (d : Device). d.id) ds
  unlisted_ids u [] = refl
  unlisted_ids u (d ∷ ds) = go (same_name d.user u) refl (unlisted_ids u ds)
    where
      go : (b : Bool) → same_name d.user u ≡ b → map (λ (e : Device). e.id) (map (unlist_of u) ds) ≡ map (λ (e : Device). e.id) ds → map (λ (e : Device). e.id) (map (unlist_of u) (d ∷ ds)) ≡ map (λ (e : Device). e.id) (d ∷ ds)
      go true e rest = rw e (ap (λ more. d.id ∷ more) rest)
      go false e rest = rw e (ap (λ more. d.id ∷ more) rest)

  pub kept-without_member : (u : Name) → IsKept (after.without_member s u) keys (filter (keeps_scope u) live ++ map scope_of_device (filter (stays_listed u) s.devices))
  kept-without_member u = record {
    ordered = record {
      members = without-ascends name_cmp same_name (λ n. n.user) nat_list_cmp_total texts_ties u s.members kept.ordered.members;
      devices = subst (λ ids. IsStrictlySortedBy name_cmp ids) (sym (unlisted_ids u s.devices)) kept.ordered.devices;
      roles = kept.ordered.roles;
      invitations = kept.ordered.invitations;
      currents = kept.ordered.currents;
      others = kept.ordered.others;
    };
    keys_are = kept.keys_are ∙ ap (λ more. s.currents ++ more) (sym (unlisted_keys u s.devices));
    scopes_are = ap (λ all. filter (keeps_scope u) all ++ map scope_of_device (filter (stays_listed u) s.devices)) kept.scopes_are ∙ scopes.scopes-without_member s u;
  }
