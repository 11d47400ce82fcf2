use Rattle.team_sets.proofs.Heights.{has_height}
use Rattle.team_sets.proofs.laws.height_is_of_parents.Goals as goal

pub returns : goal.returns
returns g c name prev links differ x k = has_height name prev links differ x k
