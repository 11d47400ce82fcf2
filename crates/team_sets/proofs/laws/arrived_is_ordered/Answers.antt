use Rattle.team_sets.proofs.Arrivals.{arrived_ordered}
use Rattle.team_sets.proofs.laws.arrived_is_ordered.Goals as goal

pub returns : goal.returns
returns g c name prev links set = arrived_ordered name prev links set
