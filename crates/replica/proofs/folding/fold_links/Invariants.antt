use Rattle.std.proofs.Common.{◌≡◌, fold, drop}
use Rattle.team_model.specs.Judging.{fold_team, team_rules}
use Rattle.link_graph.specs.Held.{arrived_of}
use Rattle.link_graph.specs.Positions.{at_places}
use Rattle.replica.proofs.folding.fold_links.Given as goal

abbrev pub invariant-loop-position : goal.invariant-loop-position
invariant-loop-position g l =
    fold (λ s x. team_rules.after s x.entry) l.state (at_places (arrived_of l.graph.links) (drop l.position-index l.positions))
    ≡ fold_team team_rules (at_places (arrived_of l.graph.links) l.positions)
