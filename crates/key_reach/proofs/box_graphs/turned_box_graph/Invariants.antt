use Rattle.std.proofs.Common.{◌≡◌, ◌++◌, drop}
use Rattle.key_reach.specs.Graphs.{turned}
use Rattle.key_reach.specs.Keys.{box_arrows}
use Rattle.key_reach.proofs.box_graphs.turned_box_graph.Given as goal

abbrev pub invariant-loop-line : goal.invariant-loop-line
invariant-loop-line l = l.arrows.items ++ turned (box_arrows (drop l.line-index l.boxes)) ≡ turned (box_arrows l.boxes)
