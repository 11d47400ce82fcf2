use Rattle.key_reach.proofs.Orders.{key-order-is}
use Rattle.key_reach.proofs.lists.ordered_pairs.Goals as goal

pub returns : goal.returns
returns c = rw key-order-is at c.ordered.ensures
