use Rattle.team_sets.proofs.OrderSame.{order-same}
use Rattle.team_sets.proofs.laws.order_is_of_set.Goals as goal

pub returns : goal.returns
returns g c name prev links others differ apart same = order-same name prev links others differ apart same.forth same.back
