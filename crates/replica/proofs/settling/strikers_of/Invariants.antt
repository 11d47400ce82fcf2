use Rattle.std.proofs.Common.{◌≡◌, map, take}
use Rattle.team_model.specs.Judging.{strikers}
use Rattle.link_graph.specs.Held.{arrived_of}
use Rattle.link_graph.specs.Positions.{at_places}
use Rattle.replica.specs.Settling.{striker_of}
use Rattle.replica.proofs.settling.strikers_of.Given as goal

abbrev pub invariant-loop-position : goal.invariant-loop-position
invariant-loop-position l =
    l.acts.items
    ≡ map (striker_of l.graph.links (at_places (arrived_of l.graph.links) l.positions)) (strikers l.graph.links (at_places (arrived_of l.graph.links) (take l.position-index l.positions)))
