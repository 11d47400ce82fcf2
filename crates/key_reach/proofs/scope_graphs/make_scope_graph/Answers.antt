use Rattle.std.proofs.lemmas.Result.{IfOk-weaker}
use Rattle.tg_text.specs.Order.{scope_cmp}
use Rattle.key_reach.proofs.Ends.{more-there}
use Rattle.key_reach.proofs.Orders.{scope-order-is, scope-tells}
use Rattle.key_reach.proofs.scope_graphs.make_scope_graph.Goals as goal

pub make_graph-requires : goal.make_graph-requires
make_graph-requires c = scope-tells

pub returns-clause-nodes : goal.returns-clause-nodes
returns-clause-nodes c =
    let list = rw scope-order-is at c.make_graph.ensures.nodes in
    IfOk-weaker c.make_graph.result _ _ (λ graph h. more-there scope_cmp c.args.more.now c.args.arrows.now graph.nodes.items h) list
