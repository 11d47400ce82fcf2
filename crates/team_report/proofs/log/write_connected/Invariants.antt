use Rattle.std.proofs.Common.{◌≡◌, ◌++◌, flat_map, drop}
use Rattle.team_model.specs.Judging.{order_of}
use Rattle.link_graph.specs.Held.{arrived_of}
use Rattle.link_graph.specs.Positions.{at_places}
use Rattle.team_report.specs.LogText.{log_line}
use Rattle.team_report.proofs.log.write_connected.Given as goal

-- with the lines of what is left, all are there
abbrev pub invariant-loop-position : goal.invariant-loop-position
invariant-loop-position l =
    l.out ++ flat_map (log_line l.graph.links) (at_places (arrived_of l.graph.links) (drop l.position-index l.position-items))
    ≡ l.fn.out ++ flat_map (log_line l.graph.links) (order_of l.graph.links)
