use Rattle.team_sets.proofs.Ancestors.{past-past}
use Rattle.team_sets.proofs.laws.past_of_past.Goals as goal

pub returns : goal.returns
returns g c name prev links differ x y k j = past-past name prev links differ x y k j
