use Rattle.std.proofs.Common.{◌≡◌, ◌∙◌, ap, subst, sym}
use Rattle.team_sets.specs.OrderLaws.{IsSet}
use Rattle.team_model.specs.Judging.{name_of}
use Rattle.link_graph.specs.Held.{Held}
use Rattle.team_report.proofs.Explains.{connected_why, never_none, waiting_why}
use Rattle.team_report.proofs.why.why_text.Goals as goal

pub unreachable-requires : goal.unreachable-requires
unreachable-requires c =
    let same : c.links.result.now ≡ c.args.replica.now.links = c.links.ensures ∙ ap (λ (h : Held). h.links) c.graph-graph.ensures in
    never_none c.args.replica.now.links c.args.name.now c.requires.held (sym (rw (c.in-None-link_named.is, same) at c.link_named.ensures))

pub returns-in-Some : goal.returns-in-Some
returns-in-Some c =
    connected_why c.args.replica.now.links (subst (λ (h : Held). IsSet name_of h.links) c.graph-graph.ensures c.is_held.ensures.set) c.args.name.now c.in-Some.position c.explain_connected.result
    (sym (rw (c.in-Some.is, c.graph-graph.ensures) at c.position.ensures)) c.explain_connected.ensures

pub returns-in-Some-link_named : goal.returns-in-Some-link_named
returns-in-Some-link_named c =
    let same : c.links.result.now ≡ c.args.replica.now.links = c.links.ensures ∙ ap (λ (h : Held). h.links) c.graph-graph.ensures in
    waiting_why c.args.replica.now.links (subst (λ (h : Held). IsSet name_of h.links) c.graph-graph.ensures c.is_held.ensures.set) c.args.name.now c.in-Some-link_named.link.now c.explain.result
    (sym (rw (c.in-None.is, c.graph-graph.ensures) at c.position.ensures)) (sym (rw (c.in-Some-link_named.is, same) at c.link_named.ensures)) c.explain.ensures
