use Rattle.key_reach.proofs.Orders.{key-order-is}
use Rattle.team_reducer.proofs.known.ordered_pairs.Goals as goal

pub returns : goal.returns
returns c = rw key-order-is at c.ordered.ensures
