use Rattle.team_sets.proofs.SameOrder.{same_connected}
use Rattle.team_sets.proofs.laws.connected_is_of_order.Goals as goal

pub returns : goal.returns
returns g c name prev links others differ apart same = same_connected name prev links others differ apart same
