use Rattle.team_sets.proofs.ConnectedLaw.{order_connected}
use Rattle.team_sets.proofs.laws.order_is_connected.Goals as goal

pub returns : goal.returns
returns g c name prev links differ n = order_connected name prev links differ n
