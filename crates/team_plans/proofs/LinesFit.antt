-- No planned line is left in a state that entries make.
use Rattle.std.proofs.Common.{◌≡◌, ◌≤◌, ◌+◌, ℕ, true, false, cond, List, [], ◌∷◌, filter, length, map, None, refl, sym, ◌∙◌, ap, subst}
use Rattle.acts.specs.declared.entry.Entry.{Entry}
use Rattle.tg_text.specs.declared.keys.BoxLine.{BoxLine}
use Rattle.tg_text.specs.declared.keys.KeyId.{KeyId}
use Rattle.key_reach.specs.Keys.{current_keys}
use Rattle.team_model.specs.ActTable.{refusal}
use Rattle.team_model.specs.KeyLines.{taken_boxes, taken_news, with_news}
use Rattle.team_model.specs.KeyTables.{key_table, live_scopes}
use Rattle.team_model.specs.Limits.{most_boxes}
use Rattle.team_model.specs.State.{State, lists_device}
use Rattle.team_state.proofs.Staying.{by_cases}
use Rattle.team_reducer.specs.Sound.{made_by}
use Rattle.team_reducer.proofs.Sounding.{states_sound}
use Rattle.team_reducer.proofs.Untouched.{untouched}
use Rattle.team_plans.specs.PlanLaws.{AreTaken, HasPlannedLines}
use Rattle.team_plans.specs.Plans.{effected, ends_of, is_planned, lacks_by_content, next_keys, plan_scopes, plan_state}
use Rattle.team_plans.proofs.AllTaken.{boxes_taken, news_taken}
use Rattle.team_plans.proofs.PlanLines.{IsPlanOf, not_before}
use Rattle.team_plans.proofs.Effects.{effected_sound, sound_ordered}
use Rattle.team_plans.proofs.StateTables.{keyed_effect}

no_boxes : (bs : List BoxLine) → map ends_of bs ≡ [] → bs ≡ []
no_boxes [] e = refl
no_boxes (b ∷ bs) e = absurd (let bad : ◌≡◌ {A = List (KeyId × KeyId)} (ends_of b ∷ map ends_of bs) [] = e in cc)

-- whose device isn't listed plans no lines
module _ (s : State) (e : Entry) (publics : List (List ℕ)) (plan : HasPlannedLines s e publics) (unlisted : lists_device (effected s e) e.user e.device ≡ false) where
  no_scopes : plan_scopes s (effected s e) e ≡ []
  no_scopes = ap (λ b. cond b (filter (is_planned s (effected s e) e) (live_scopes (effected s e))) []) unlisted

  none_planned : e.lines.news ≡ []
  none_planned = plan.news ∙ ap (λ scopes. next_keys (effected s e) scopes publics) no_scopes

  none_due : e.lines.boxes ≡ []
  none_due = no_boxes e.lines.boxes (plan.boxes ∙ ap (λ b. cond b (filter (not_before s) (lacks_by_content (key_table (plan_state s (effected s e) e publics)))) []) unlisted)

  none_left : AreTaken s e
  none_left = record {
    news = subst (λ news. taken_news (effected s e) e news ≡ news) (sym none_planned) refl;
    boxes = subst (λ lines. taken_boxes (effected s e) (current_keys (key_table (with_news (effected s e) e e.lines.news))) lines ≡ lines) (sym none_due) refl;
  }

pub lines_fit : (entries : List Entry) (e : Entry) (publics : List (List ℕ)) → refusal (made_by entries) e ≡ None
    → HasPlannedLines (made_by entries) e publics → length (made_by entries).boxes + length e.lines.boxes ≤ most_boxes → AreTaken (made_by entries) e
lines_fit entries e publics permitted plan room = by_cases (lists_device (effected s e) e.user e.device) fit (λ unlisted. none_left s e publics plan unlisted)
  where
    s : State
    s = made_by entries

    fit : lists_device (effected s e) e.user e.device ≡ true → AreTaken s e
    fit listed =
        let lines : IsPlanOf s (effected s e) e publics = record { keyed = keyed_effect s e e.act (states_sound entries).keyed; listed = listed; each = plan.each; news = plan.news; boxes = plan.boxes } in
        let up = sound_ordered (effected s e) (effected_sound entries e permitted) in
        record {
          news = news_taken s (effected s e) e publics lines up;
          boxes = boxes_taken s (effected s e) e publics lines up (subst (λ (bs : List BoxLine). length bs + length e.lines.boxes ≤ most_boxes) (sym (untouched s e e.act).boxes) room);
        }
