use Rattle.team_sets.proofs.Decisions.{stands_as_decided}
use Rattle.team_sets.proofs.laws.stands_as_decided.Goals as goal

pub returns : goal.returns
returns g c senior strikes acts = stands_as_decided senior strikes acts
