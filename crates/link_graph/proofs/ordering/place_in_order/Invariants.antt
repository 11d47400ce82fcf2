use Rattle.std.proofs.Common.{◌≡◌, ◌+◌, ◌≤◌, false, length, drop}
use Rattle.std.specs.List.{list_any}
use Rattle.std.specs.Map.{keys_of}
use Rattle.team_sets.specs.Names.{has_name}
use Rattle.link_graph.specs.Lines.{place_index}
use Rattle.link_graph.specs.Positions.{at_places}
use Rattle.link_graph.proofs.ordering.place_in_order.Given as goal

abbrev pub invariant-loop-i : goal.invariant-loop-i
invariant-loop-i l = record {
  within : l.i ≤ length l.order;
  bound : l.place ≤ length l.order;
  place : l.place ≡ l.i + place_index l.link (at_places (keys_of l.connected) (drop l.i l.order));
  none : list_any (has_name l.link.prev) (at_places (keys_of l.connected) (drop l.i l.order)) ≡ false;
}

abbrev pub decreases-loop-i : goal.decreases-loop-i
decreases-loop-i l = l.i
