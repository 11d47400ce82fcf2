use Rattle.std.proofs.Common.{◌≡◌, [], ◌∷◌, ◌++◌, flat_map, drop}
use Rattle.key_reach.specs.Graphs.{ends}
use Rattle.key_reach.proofs.graph.all_ends.Given as goal

abbrev pub invariant-loop-tail : goal.invariant-loop-tail
invariant-loop-tail g l = l.values.items ++ flat_map (λ a. a.0 ∷ a.1 ∷ []) (drop l.tail-index l.arrows) ≡ ends l.more l.arrows
