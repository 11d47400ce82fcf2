use Rattle.team_sets.proofs.OrderLeast.{order_laws}
use Rattle.team_sets.proofs.laws.order_is_least.Goals as goal

pub returns : goal.returns
returns g c name prev links differ = let laws = order_laws name prev links differ in record { arranged = laws.0; least = laws.1 }
