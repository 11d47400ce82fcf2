use Rattle.team_sets.proofs.Closures.{closure-reaches}
use Rattle.team_sets.proofs.laws.closure_is_reach.Goals as goal

pub returns : goal.returns
returns g c same decides arrows given x = closure-reaches same decides arrows given x
