use Rattle.team_reducer.specs.Sound.{made_by}
use Rattle.team_reducer.proofs.Sounding.{states_sound}
use Rattle.team_plans.proofs.Effects.{effected_sound}
use Rattle.team_plans.proofs.FewKeys.{few_planned}
use Rattle.team_plans.proofs.Touched.{taints_touched}
use Rattle.team_plans.proofs.laws.plans_are_short.Goals as goal

pub returns-clause-taint : goal.returns-clause-taint
returns-clause-taint c entries e permitted k user is clean tainted = taints_touched (made_by entries) e (states_sound entries) permitted k user is clean tainted

pub returns-clause-keys : goal.returns-clause-keys
returns-clause-keys c entries e permitted = few_planned (made_by entries) e (states_sound entries) permitted (effected_sound entries e permitted)
