use Rattle.std.proofs.lemmas.Result.{IfOk-weaker}
use Rattle.tg_text.specs.Order.{key_cmp}
use Rattle.key_reach.proofs.Ends.{more-there}
use Rattle.key_reach.proofs.Orders.{key-order-is, key-tells}
use Rattle.key_reach.proofs.box_graphs.make_key_graph.Goals as goal

pub make_graph-requires : goal.make_graph-requires
make_graph-requires c = key-tells

pub returns-clause-nodes : goal.returns-clause-nodes
returns-clause-nodes c =
    let list = rw key-order-is at c.make_graph.ensures.nodes in
    IfOk-weaker c.make_graph.result _ _ (λ graph h. more-there key_cmp c.args.more.now c.args.arrows.now graph.nodes.items h) list
