use Rattle.std.proofs.Common.{◌≡◌, ◌<◌, ◌++◌, length, drop}
use Rattle.std.specs.List.{All}
use Rattle.key_reach.specs.Graphs.{found, nodes_with}
use Rattle.key_reach.proofs.graph.number_nodes.Given as goal

abbrev pub invariant-loop-value : goal.invariant-loop-value
invariant-loop-value g l = record {
  within : All (λ n. n < length l.nodes) l.numbers.items;
  named : nodes_with l.nodes l.numbers.items ++ found (drop l.value-index l.values) ≡ found l.values;
}
