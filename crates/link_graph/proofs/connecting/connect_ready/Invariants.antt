use Rattle.std.proofs.Common.{◌≡◌, ◌++◌, ◌-◌, ◌≤◌, ℕ, List, length}
use Rattle.std.specs.Map.{keys_of}
use Rattle.team_sets.specs.Names.{Name}
use Rattle.team_sets.specs.Order.{order_after}
use Rattle.team_model.specs.Judging.{name_of, prev_of}
use Rattle.link_graph.specs.Positions.{HasEntries, IsReady, linked}
use Rattle.link_graph.proofs.connecting.connect_ready.Given as goal

abbrev pub invariant-loop : goal.invariant-loop
invariant-loop l = record {
  entries : HasEntries l.holding l.connected;
  grown : (more : List (Name × ℕ)) × (l.connected ≡ l.fn.connected ++ more);
  ready : IsReady l.holding (keys_of l.connected) l.ready.keys;
  follow : linked l.holding l.fn.connected ++ order_after name_of prev_of (length l.holding) (linked l.holding l.fn.connected) l.holding
      ≡ linked l.holding l.connected ++ order_after name_of prev_of (length l.holding) (linked l.holding l.connected) l.holding;
  few : length (order_after name_of prev_of (length l.holding) (linked l.holding l.connected) l.holding) ≤ l.end - l.counter;
}
