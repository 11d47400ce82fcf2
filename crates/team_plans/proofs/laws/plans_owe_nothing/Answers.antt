use Rattle.team_plans.proofs.PlansOwe.{states_settle, teams_settle}
use Rattle.team_plans.proofs.laws.plans_owe_nothing.Goals as goal

pub returns-clause-states : goal.returns-clause-states
returns-clause-states c entries e publics permitted plan may = states_settle entries e publics permitted plan may

pub returns-clause-teams : goal.returns-clause-teams
returns-clause-teams c links differ e publics permitted plan may = teams_settle links differ e publics permitted plan may
