-- What a plan says, where it is a draft or a reason.
use Rattle.std.proofs.Common.{◌≡◌, ℕ, Bool, true, false, cond, List, Option, Some, None, IsErrAnd, Result, Ok, Err, refl, sym, subst}
use Rattle.acts.specs.declared.entry.Act.{Act}
use Rattle.acts.specs.declared.entry.Entry.{Entry}
use Rattle.team_model.specs.ActTable.{refusal}
use Rattle.team_model.specs.declared.terms.Reason.{Reason}
use Rattle.lms_keep.specs.declared.key_state.KeyState.{KeyState}
use Rattle.link_text.specs.declared.draft.Draft.{Draft}
use Rattle.link_graph.specs.Held.{Held}
use Rattle.team_author.specs.Planning.{IsPlanned, base_of, by_refusal, draft_of, entry_of, is_full, planned}
use Rattle.team_author.specs.declared.plan_fault.PlanFault.{PlanFault}
use Rattle.team_author.specs.declared.plan_fault.PlanFault.TheVariants.{Full, NotPermitted}

-- there is room, the entry is permitted, and this is its draft
pub record IsPlan (held : Held) (key : List ℕ) (entry : Entry) (d : Draft) : Type 0 where
  pub room : is_full held ≡ false
  pub permitted : refusal (base_of held.links) entry ≡ None
  pub draft : draft_of held key entry ≡ d

pub planned_is : (held : Held) (s : KeyState) (key : List ℕ) (act : Act) (time : ℕ) (d : Draft) → planned held s key act time ≡ Ok d → IsPlan held key (entry_of s key act time) d
planned_is held s key act time d e = by_room (is_full held) refl e
  where
    entry : Entry
    entry = entry_of s key act time

    by_reason : is_full held ≡ false → (r : Option Reason) → refusal (base_of held.links) entry ≡ r → by_refusal held key entry r ≡ Ok d → IsPlan held key entry d
    by_reason room None permitted e = record { room = room; permitted = permitted; draft = (let same : ◌≡◌ {A = Result Draft PlanFault} (Ok (draft_of held key entry)) (Ok d) = e in cc) }
    by_reason room (Some reason) refused e = absurd (let bad : ◌≡◌ {A = Result Draft PlanFault} (Err (NotPermitted reason)) (Ok d) = e in cc)

    by_room : (b : Bool) → is_full held ≡ b → cond b (Err Full) (by_refusal held key entry (refusal (base_of held.links) entry)) ≡ Ok d → IsPlan held key entry d
    by_room true full e = absurd (let bad : ◌≡◌ {A = Result Draft PlanFault} (Err Full) (Ok d) = e in cc)
    by_room false room e = by_reason room (refusal (base_of held.links) entry) refl e

-- what is planned where a reason applies
pub planned_refused : (held : Held) (s : KeyState) (key : List ℕ) (act : Act) (time : ℕ) (reason : Reason) → is_full held ≡ false
    → refusal (base_of held.links) (entry_of s key act time) ≡ Some reason → planned held s key act time ≡ Err (NotPermitted reason)
planned_refused held s key act time reason room e = rw (room, e) refl

-- a reason is answered
pub refused_so : (plan r : Result Draft PlanFault) (reason : Reason) → plan ≡ Err (NotPermitted reason) → IsErrAnd r (λ e. e ≡ NotPermitted reason) → IsPlanned plan r
refused_so plan (Ok d) reason is h = absurd h
refused_so plan (Err x) reason is h = subst (λ (f : PlanFault). IsPlanned plan (Err f)) (sym h) is
