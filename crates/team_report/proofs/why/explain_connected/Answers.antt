use Rattle.std.proofs.Common.{subst}
use Rattle.link_graph.specs.Held.{Held}
use Rattle.team_sets.specs.OrderLaws.{IsSet}
use Rattle.team_model.specs.Judging.{name_of}
use Rattle.team_report.proofs.Explains.{position_text}
use Rattle.team_report.proofs.why.explain_connected.Goals as goal

pub returns : goal.returns
returns c =
    position_text c.args.replica.now.links (subst (λ (h : Held). IsSet name_of h.links) c.graph-graph.ensures c.is_held.ensures.set) c.args.position c.link_at.result.now c.height-height.result
    c.verdict_at-verdict.result.now c.explain.result (rw c.graph-graph.ensures at c.link_at.ensures) (rw c.graph-graph.ensures at c.height-height.ensures) c.verdict_at-verdict.ensures c.explain.ensures
