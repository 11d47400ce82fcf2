use Rattle.team_sets.proofs.Parts.{order-part}
use Rattle.team_sets.proofs.laws.order_of_part.Goals as goal

pub returns : goal.returns
returns g c name prev links part differ closed = order-part name prev links part differ closed
