use Rattle.key_reach.proofs.Orders.{scope-order-is, scope-tells}
use Rattle.key_reach.proofs.scope_graphs.scopes_from.Goals as goal

pub reached_from-requires-clause-tells : goal.reached_from-requires-clause-tells
reached_from-requires-clause-tells c = scope-tells

pub reached_from-requires-clause-nodes : goal.reached_from-requires-clause-nodes
reached_from-requires-clause-nodes c = rw scope-order-is c.requires.nodes

pub returns-clause-reached : goal.returns-clause-reached
returns-clause-reached c = rw scope-order-is at c.reached_from.ensures.reached
