-- Plans in the states that entries make, and in teams.
use Rattle.std.proofs.Common.{◌≡◌, ◌≤◌, ◌+◌, ℕ, cond, List, length, is_none, Option, None, sym, ap, subst}
use Rattle.team_sets.specs.OrderLaws.{NamesDiffer}
use Rattle.acts.specs.declared.entry.Entry.{Entry}
use Rattle.tg_text.specs.declared.keys.BoxLine.{BoxLine}
use Rattle.team_model.specs.ActTable.{after, refusal}
use Rattle.team_model.specs.Judging.{name_of, team, team_rules}
use Rattle.team_model.specs.KeyLines.{lined}
use Rattle.team_model.specs.Limits.{most_boxes}
use Rattle.team_model.specs.State.{State}
use Rattle.team_model.specs.declared.terms.Link.{Link}
use Rattle.team_model.specs.declared.terms.Reason.{Reason}
use Rattle.team_reducer.specs.Sound.{IsKeyed, made_by}
use Rattle.team_reducer.proofs.Sounding.{states_sound}
use Rattle.team_reducer.proofs.SoundTeams.{teams_sound}
use Rattle.team_reducer.proofs.Untouched.{untouched}
use Rattle.team_plans.specs.PlanLaws.{HasPlannedLines, IsSettled, MayStaySettled}
use Rattle.team_plans.specs.Plans.{effected}
use Rattle.team_plans.proofs.Owing.{owes_none}
use Rattle.team_plans.proofs.Settling.{settles}
use Rattle.team_plans.proofs.StateTables.{keyed_effect}

-- a permitted act has its effect, and its lines
pub after_is : (s : State) (e : Entry) → refusal s e ≡ None → after s e ≡ lined (effected s e) e
after_is s e permitted = ap (λ (o : Option Reason). cond (is_none o) (lined (effected s e) e) s) permitted

pub keyed_settles : (s : State) (e : Entry) (publics : List (List ℕ)) → IsKeyed s → refusal s e ≡ None → HasPlannedLines s e publics → MayStaySettled s e → IsSettled (after s e)
keyed_settles s e publics keyed permitted plan may =
    subst (λ v. IsSettled v) (sym (after_is s e permitted))
    (settles s (effected s e) e publics (record {
      lines = record { keyed = keyed_effect s e e.act keyed; listed = may.listed; each = plan.each; news = plan.news; boxes = plan.boxes };
      owes_none = owes_none s may.settled.debts;
      lacks_none = may.settled.lacks;
      rekeys = may.rekeys;
      nexts = may.nexts;
      room = subst (λ (bs : List BoxLine). length bs + length e.lines.boxes ≤ most_boxes) (sym (untouched s e e.act).boxes) may.room;
    }))

pub states_settle : (entries : List Entry) (e : Entry) (publics : List (List ℕ)) → refusal (made_by entries) e ≡ None
    → HasPlannedLines (made_by entries) e publics → MayStaySettled (made_by entries) e → IsSettled (after (made_by entries) e)
states_settle entries e publics permitted plan may = keyed_settles (made_by entries) e publics (states_sound entries).keyed permitted plan may

pub teams_settle : (links : List Link) → NamesDiffer name_of links → (e : Entry) (publics : List (List ℕ)) → refusal (team team_rules links) e ≡ None
    → HasPlannedLines (team team_rules links) e publics → MayStaySettled (team team_rules links) e → IsSettled (after (team team_rules links) e)
teams_settle links differ e publics permitted plan may = keyed_settles (team team_rules links) e publics (teams_sound links differ).keyed permitted plan may
