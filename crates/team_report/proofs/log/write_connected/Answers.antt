use Rattle.std.proofs.Common.{◌≡◌, ◌∙◌, ◌++◌, ap, flat_map, slice_get}
use Rattle.team_model.specs.Judging.{order_of}
use Rattle.team_model.specs.declared.terms.Verdict.{Verdict}
use Rattle.link_graph.specs.Held.{arrived_of}
use Rattle.team_report.specs.LogText.{judged_line, log_line}
use Rattle.team_report.proofs.LineSteps.{judged_at, line_next}
use Rattle.team_report.proofs.log.write_connected.Goals as goal

pub loop-position-preserved : goal.loop-position-preserved
loop-position-preserved c =
    let links = c.args.graph.now.links in
    let link = c.link_at.result.now in
    let out = c.loop-position.out in
    let judged = judged_at links _ link c.index-verdicts-position.result c.args.verdicts.now c.link_at.ensures c.requires c.index-verdicts-position.is in
    let line : c.write_line.new.out ≡ out ++ log_line links link = c.in_ok-write_line.ensures ∙ ap (λ (v : Verdict). out ++ judged_line link v) judged in
    line_next (log_line links) (slice_get (arrived_of links)) c.order-position-items.result.now c.loop-position.position-index _ link
    (c.args.out.now ++ flat_map (log_line links) (order_of links)) out c.write_line.new.out c.loop-position-test.true c.link_at.ensures line c.loop-position.invariant
