use Rattle.key_reach.proofs.Orders.{key-order-is}
use Rattle.team_reducer.proofs.known.is_pair.Goals as goal

pub returns : goal.returns
returns c = rw key-order-is at c.is_member.ensures
