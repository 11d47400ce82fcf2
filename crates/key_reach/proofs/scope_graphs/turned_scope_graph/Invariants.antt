use Rattle.std.proofs.Common.{◌≡◌, ◌++◌, flat_map, drop}
use Rattle.key_reach.specs.Steps.{turned_arrows, turned_from}
use Rattle.key_reach.proofs.scope_graphs.turned_scope_graph.Given as goal

abbrev pub invariant-loop-from : goal.invariant-loop-from
invariant-loop-from g l =
    let t = g.V.KeyTable.table l.view in
    l.arrows.items ++ flat_map (turned_from t) (drop l.from-index l.from-items) ≡ turned_arrows t
