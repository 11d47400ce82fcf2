use Rattle.key_reach.proofs.Orders.{key-order-is, key-tells}
use Rattle.key_reach.proofs.box_graphs.keys_from.Goals as goal

pub reached_from-requires-clause-tells : goal.reached_from-requires-clause-tells
reached_from-requires-clause-tells c = key-tells

pub reached_from-requires-clause-nodes : goal.reached_from-requires-clause-nodes
reached_from-requires-clause-nodes c = rw key-order-is c.requires.nodes

pub returns-clause-reached : goal.returns-clause-reached
returns-clause-reached c = rw key-order-is at c.reached_from.ensures.reached
