use Rattle.team_sets.proofs.Ancestors.{order-past}
use Rattle.team_sets.proofs.laws.order_of_past.Goals as goal

pub returns : goal.returns
returns g c name prev links differ x k = order-past name prev links differ x k
