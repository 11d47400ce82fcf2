use Rattle.std.proofs.Common.{◌≡◌, ◌<◌, ◌++◌, length, drop}
use Rattle.std.specs.List.{All}
use Rattle.key_reach.specs.Graphs.{arrows_with, found_arrows}
use Rattle.key_reach.proofs.graph.number_arrows.Given as goal

abbrev pub invariant-loop-arrow : goal.invariant-loop-arrow
invariant-loop-arrow g l = record {
  within : All (λ a. (a.0 < length l.nodes) × (a.1 < length l.nodes)) l.numbers.items;
  named : arrows_with l.nodes l.numbers.items ++ found_arrows (drop l.arrow-index l.arrows) ≡ found_arrows l.arrows;
}
