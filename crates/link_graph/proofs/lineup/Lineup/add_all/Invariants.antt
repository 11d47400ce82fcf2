use Rattle.std.proofs.Common.{◌≤◌, length, take}
use Rattle.link_graph.specs.Lines.{HasRoom, IsLineup}
use Rattle.link_graph.specs.Positions.{linked}
use Rattle.link_graph.proofs.lineup.Lineup.add_all.Given as goal

abbrev pub invariant-loop-position : goal.invariant-loop-position
invariant-loop-position l = record {
  within : l.position ≤ length l.connected;
  room : HasRoom (length l.connected) l.self;
  so_far : IsLineup (take l.position (linked l.links l.connected)) l.self;
}
