use Rattle.std.proofs.Common.{◌≡◌, filter_map, position, take}
use Rattle.std.specs.Map.{keys_of}
use Rattle.team_sets.specs.Names.{same_name}
use Rattle.link_graph.proofs.parentage.positions_of.Given as goal

abbrev pub invariant-loop-name : goal.invariant-loop-name
invariant-loop-name l = l.positions.items ≡ filter_map (λ n. position (same_name n) (keys_of l.connected)) (take l.name-index l.names)
