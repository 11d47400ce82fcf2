use Rattle.std.proofs.Common.{◌≡◌, ◌≤◌, length, take}
use Rattle.link_graph.specs.Parentage.{parents_in}
use Rattle.link_graph.specs.Positions.{linked}
use Rattle.link_graph.proofs.parentage.add_further.Given as goal

abbrev pub invariant-loop-position : goal.invariant-loop-position
invariant-loop-position l = record {
  within : l.position ≤ length l.connected;
  later : length l.fn.ancestry ≤ l.position;
  so_far : l.ancestry ≡ take l.position (parents_in (linked l.links l.connected));
}
