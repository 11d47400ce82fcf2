use Rattle.team_sets.proofs.Connects.{least_by_name}
use Rattle.team_sets.proofs.laws.least_is_by_name.Goals as goal

pub returns : goal.returns
returns g c name links differ = least_by_name name links differ
