-- What acts and lines leave as it is.
use Rattle.std.proofs.Common.{◌≡◌, true, false, List, [], ◌∷◌, Option, Some, None, refl, sym, subst}
use Rattle.std.specs.Option.{option_map_or}
use Rattle.std.proofs.lemmas.Bool.{false≢true, and_parts}
use Rattle.acts.specs.declared.entry.Act.{Act}
use Rattle.acts.specs.declared.entry.Act.TheVariants.{Found, AddMember, RemoveMember, AddRole, RemoveRole, GiveRole, TakeRole, AddDevice, RemoveDevice, InviteMember, InviteDevice, Revoke, AdmitMember, AdmitDevice, Title}
use Rattle.acts.specs.declared.entry.Entry.{Entry}
use Rattle.sha2.specs.Sha256.{sha256}
use Rattle.team_model.specs.ActTable.{effect, with_proof_used}
use Rattle.team_model.specs.KeyLines.{lined}
use Rattle.team_model.specs.State.{State, device_row, is_empty_state}
use Rattle.team_model.specs.Writes.{unlisted, with_closed, with_device}
use Rattle.team_model.specs.declared.terms.Device.{Device}
use Rattle.team_model.proofs.Invited.{InvitesOnly, closed-only, proof_used-only}
use Rattle.team_model.proofs.Lined.{lined-none}
use Rattle.team_reducer.specs.News.{has_no_lines, is_empty}

-- no act takes keys or boxes, and none takes the title away
pub record Untouched (s t : State) : Type 0 where
  pub currents : t.currents ≡ s.currents
  pub boxes : t.boxes ≡ s.boxes
  pub titled : is_empty_state s ≡ false → is_empty_state t ≡ false

same_state : (s : State) → Untouched s s
same_state s = record { currents = refl; boxes = refl; titled = λ h. h }

invites_alone : (s t : State) → InvitesOnly s t → Untouched s t
invites_alone s t only = subst (λ (x : State). Untouched s x) (sym only.1) (record { currents = refl; boxes = refl; titled = λ h. h })

pub untouched : (s : State) (e : Entry) (a : Act) → Untouched s (effect s e a)
untouched s e (Found seal title) = record { currents = refl; boxes = refl; titled = λ h. refl }
untouched s e (AddMember user key seal) = record { currents = refl; boxes = refl; titled = λ h. h }
untouched s e (RemoveMember user) = record { currents = refl; boxes = refl; titled = λ h. h }
untouched s e (AddRole role) = record { currents = refl; boxes = refl; titled = λ h. h }
untouched s e (RemoveRole role) = record { currents = refl; boxes = refl; titled = λ h. h }
untouched s e (GiveRole user role) = record { currents = refl; boxes = refl; titled = λ h. h }
untouched s e (TakeRole user role) = record { currents = refl; boxes = refl; titled = λ h. h }
untouched s e (AddDevice key seal) = record { currents = refl; boxes = refl; titled = λ h. h }
untouched s e (RemoveDevice user id) = go (device_row s id)
  where
    go : (o : Option Device) → Untouched s (option_map_or (λ d. with_device s (unlisted d)) o s)
    go (Some d) = record { currents = refl; boxes = refl; titled = λ h. h }
    go None = same_state s
untouched s e (InviteMember key uses expiry) = record { currents = refl; boxes = refl; titled = λ h. h }
untouched s e (InviteDevice key uses expiry) = record { currents = refl; boxes = refl; titled = λ h. h }
untouched s e (Revoke kind id) = invites_alone s (with_closed s id) (closed-only s id)
untouched s e (AdmitMember user key seal by proof) =
    let same = invites_alone s (with_proof_used s (sha256 by) proof) (proof_used-only s (sha256 by) proof) in
    record { currents = same.currents; boxes = same.boxes; titled = same.titled }
untouched s e (AdmitDevice key seal by proof) =
    let same = invites_alone s (with_proof_used s (sha256 by) proof) (proof_used-only s (sha256 by) proof) in
    record { currents = same.currents; boxes = same.boxes; titled = same.titled }
untouched s e (Title title) = record { currents = refl; boxes = refl; titled = λ h. refl }
untouched s e _ = same_state s

-- an entry without lines
none_of : {A : Type 0} (xs : List A) → is_empty xs ≡ true → xs ≡ []
none_of [] h = refl
none_of (x ∷ xs) h = absurd (false≢true h)

pub lined-quiet : (s : State) (e : Entry) → has_no_lines e ≡ true → lined s e ≡ s
lined-quiet s e h =
    let parts = and_parts (is_empty e.lines.news) (is_empty e.lines.boxes) h in
    lined-none s e (none_of e.lines.news parts.0) (none_of e.lines.boxes parts.1)
