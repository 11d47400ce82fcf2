use Rattle.std.proofs.Common.{◌≡◌, ◌++◌, drop}
use Rattle.key_reach.specs.Keys.{box_arrows}
use Rattle.key_reach.proofs.box_graphs.box_graph.Given as goal

abbrev pub invariant-loop-line : goal.invariant-loop-line
invariant-loop-line l = l.arrows.items ++ box_arrows (drop l.line-index l.boxes) ≡ box_arrows l.boxes
