-- What plans promise. The lines of an entry are planned where they are those of its act, with any publics and any bytes in boxes.
use Rattle.std.specs.Prelude.{◌≡◌, ◌≤◌, ◌+◌, ℕ, true, List, [], length, map, None}
use Rattle.team_sets.specs.OrderLaws.{NamesDiffer}
use Rattle.acts.specs.declared.entry.Entry.{Entry}
use Rattle.tg_text.specs.declared.keys.Scope.{Scope}
use Rattle.key_reach.specs.Debts.{debts}
use Rattle.key_reach.specs.Keys.{current_keys, is_live, lacks}
use Rattle.team_model.specs.ActTable.{after, refusal}
use Rattle.team_model.specs.Judging.{name_of, team, team_rules}
use Rattle.team_model.specs.KeyLines.{has_next, may_rekey, taken_boxes, taken_news, wants_key, with_news}
use Rattle.team_model.specs.KeyTables.{key_table}
use Rattle.team_model.specs.Limits.{most_boxes}
use Rattle.team_model.specs.State.{State, empty_state, lists_device}
use Rattle.team_model.specs.declared.terms.Link.{Link}
use Rattle.team_reducer.specs.Sound.{made_by}
use Rattle.team_plans.specs.Plans.{due, effected, ends_of, plan_news, plan_scopes}

-- nothing is owed, and no box lacks
pub record IsSettled (s : State) : Type 0 where
  pub debts : debts (key_table s) ≡ []
  pub lacks : lacks (key_table s) ≡ []

module _ (s : State) (e : Entry) where
  -- the lines are those of the plan
  pub record HasPlannedLines (publics : List (List ℕ)) : Type 0 where
    pub each : length publics ≡ length (plan_scopes s (effected s e) e)
    pub news : e.lines.news ≡ plan_news s (effected s e) e publics
    pub boxes : map ends_of e.lines.boxes ≡ due s (effected s e) e publics

  -- nothing is owed or lacks before, the author's device is listed after the own effect, the author may give a next key to each live
  -- scope that is without a clean one then, and there is room for the boxes
  pub record MayStaySettled : Type 0 where
    pub settled : IsSettled s
    pub listed : lists_device (effected s e) e.user e.device ≡ true
    pub rekeys : (c : Scope) → is_live (key_table (effected s e)) c ≡ true → wants_key (effected s e) c ≡ true → may_rekey (effected s e) e c ≡ true
    pub nexts : (c : Scope) → is_live (key_table (effected s e)) c ≡ true → wants_key (effected s e) c ≡ true → has_next (effected s e) c ≡ true
    pub room : length s.boxes + length e.lines.boxes ≤ most_boxes

-- so it is before a team is founded
abbrev pub NothingIsSettled : Type 0
NothingIsSettled = IsSettled empty_state

-- a plan leaves no debt, and no box lacks: in every state that entries make
abbrev pub PlansOweNothing : Type 0
PlansOweNothing = (entries : List Entry) (e : Entry) (publics : List (List ℕ)) → refusal (made_by entries) e ≡ None
    → HasPlannedLines (made_by entries) e publics → MayStaySettled (made_by entries) e → IsSettled (after (made_by entries) e)

-- and in the team of a set of links
abbrev pub PlansInTeamsOweNothing : Type 0
PlansInTeamsOweNothing = (links : List Link) → NamesDiffer name_of links → (e : Entry) (publics : List (List ℕ)) → refusal (team team_rules links) e ≡ None
    → HasPlannedLines (team team_rules links) e publics → MayStaySettled (team team_rules links) e → IsSettled (after (team team_rules links) e)

-- every line of the entry is taken
pub record AreTaken (s : State) (e : Entry) : Type 0 where
  pub news : taken_news (effected s e) e e.lines.news ≡ e.lines.news
  pub boxes : taken_boxes (effected s e) (current_keys (key_table (with_news (effected s e) e e.lines.news))) e.lines.boxes ≡ e.lines.boxes

-- no planned line is left, where there is room for the boxes
abbrev pub PlannedLinesFit : Type 0
PlannedLinesFit = (entries : List Entry) (e : Entry) (publics : List (List ℕ)) → refusal (made_by entries) e ≡ None
    → HasPlannedLines (made_by entries) e publics → length (made_by entries).boxes + length e.lines.boxes ≤ most_boxes → AreTaken (made_by entries) e
