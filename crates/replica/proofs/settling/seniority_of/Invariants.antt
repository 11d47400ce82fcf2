use Rattle.std.proofs.Common.{drop}
use Rattle.link_graph.specs.Held.{arrived_of}
use Rattle.link_graph.specs.Positions.{at_places}
use Rattle.replica.specs.Settling.{HasFirsts}
use Rattle.replica.proofs.settling.seniority_of.Given as goal

abbrev pub invariant-loop-place : goal.invariant-loop-place
invariant-loop-place l = HasFirsts l.graph.links (at_places (arrived_of l.graph.links) (drop l.place l.positions)) l.seniority
