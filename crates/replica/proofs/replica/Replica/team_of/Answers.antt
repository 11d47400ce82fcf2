use Rattle.std.proofs.Common.{◌≡◌, ◌∙◌, ap, length}
use Rattle.std.proofs.lemmas.List.{length-map}
use Rattle.team_model.specs.Judging.{team_rules, unlawful_reason}
use Rattle.link_graph.specs.Held.{arrived_of}
use Rattle.replica.proofs.Named.{given_connected}
use Rattle.replica.proofs.replica.Replica.team_of.Goals as goal

pub team_below-requires-clause-given : goal.team_below-requires-clause-given
team_below-requires-clause-given c =
    let links = c.self.inside.graph.links in
    let judged = c.self.inside.kept.judged.reasons.items in
    let many : length judged ≡ length (arrived_of links) = ap length c.self.invariant.judged.reasons ∙ length-map (arrived_of links) (unlawful_reason team_rules links) in
    given_connected links c.is_held.ensures.set (length judged) c.args.heads.now many
    (rw (← c.self.view_is) at c.requires.connected)
