use Rattle.std.proofs.Common.{◌∙◌, ap, subst}
use Rattle.std.specs.Prelude.{◌-◌, length, ℕ}
use Rattle.team_sets.specs.OrderLaws.{IsSet}
use Rattle.team_sets.proofs.Arrivals.{arrived_ordered}
use Rattle.team_model.specs.Judging.{name_of, prev_of}
use Rattle.link_graph.specs.Held.{Held}
use Rattle.team_report.proofs.Counted.{counted}
use Rattle.team_report.proofs.show.count_links.Goals as goal

pub overflow_sub-result : goal.overflow_sub-result
overflow_sub-result c =
    let set = subst (λ (h : Held). IsSet name_of h.links) c.graph-graph.ensures c.is_held.ensures.set in
    let within = (arrived_ordered name_of prev_of c.args.replica.now.links set).within in
    rw (c.connected.ensures, c.held-2.ensures, c.graph-graph.ensures) within

pub returns-clause-waiting : goal.returns-clause-waiting
returns-clause-waiting c =
    let set = subst (λ (h : Held). IsSet name_of h.links) c.graph-graph.ensures c.is_held.ensures.set in
    let count = (arrived_ordered name_of prev_of c.args.replica.now.links set).count in
    rw (c.connected.ensures, c.held-2.ensures, c.graph-graph.ensures) (ap (λ (n : ℕ). length c.args.replica.now.links - n) count)

pub returns-clause-counting : goal.returns-clause-counting
returns-clause-counting c =
    c.count_counting.ensures
    ∙ counted c.args.replica.now.links c.as_slice.result.now (subst (λ (h : Held). IsSet name_of h.links) c.graph-graph.ensures c.is_held.ensures.set) (c.as_slice.ensures ∙ c.view.ensures.verdicts)
