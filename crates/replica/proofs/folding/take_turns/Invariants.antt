use Rattle.std.proofs.Common.{◌≡◌, fold, drop, length, map}
use Rattle.team_model.specs.Judging.{fold_team, team_rules}
use Rattle.team_model.specs.State.{empty_state}
use Rattle.link_graph.specs.Held.{arrived_of}
use Rattle.link_graph.specs.Positions.{at_places}
use Rattle.replica.specs.Judged.{turned}
use Rattle.replica.specs.Resolving.{first_verdict}
use Rattle.replica.proofs.folding.take_turns.Given as goal

abbrev pub invariant-loop-position : goal.invariant-loop-position
invariant-loop-position g l = record {
  size : length l.verdicts.items ≡ length (arrived_of l.graph.links);
  state : fold (λ s x. team_rules.after s x.entry) l.state (at_places (arrived_of l.graph.links) (drop l.position-index l.resolved.positions.items))
      ≡ fold_team team_rules (at_places (arrived_of l.graph.links) l.resolved.positions.items);
  verdicts : turned team_rules (arrived_of l.graph.links) l.state (drop l.position-index l.resolved.positions.items) l.verdicts.items
      ≡ turned team_rules (arrived_of l.graph.links) empty_state l.resolved.positions.items (map (first_verdict l.graph.links) (arrived_of l.graph.links));
}
