use Rattle.std.proofs.Common.{◌≡◌, drop}
use Rattle.std.specs.List.{list_all}
use Rattle.std.specs.Map.{keys_of}
use Rattle.team_sets.specs.Names.{has_name}
use Rattle.link_graph.proofs.connected.Connected.has_all.Given as goal

abbrev pub invariant-loop-name : goal.invariant-loop-name
invariant-loop-name l = list_all (has_name (keys_of l.self)) l.names ≡ list_all (has_name (keys_of l.self)) (drop l.name-index l.names)
