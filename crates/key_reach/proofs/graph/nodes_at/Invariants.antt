use Rattle.std.proofs.Common.{◌≡◌, ◌++◌, drop}
use Rattle.key_reach.specs.Graphs.{found, nodes_with}
use Rattle.key_reach.proofs.graph.nodes_at.Given as goal

abbrev pub invariant-loop-place : goal.invariant-loop-place
invariant-loop-place g l = found l.values.items ++ nodes_with l.nodes (drop l.place-index l.places) ≡ nodes_with l.nodes l.places
