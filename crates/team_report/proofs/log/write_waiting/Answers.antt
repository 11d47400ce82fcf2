use Rattle.std.proofs.Common.{◌≡◌, ◌∙◌}
use Rattle.std.proofs.lemmas.Result.{on_ok_weaker}
use Rattle.link_graph.specs.Positions.{linked}
use Rattle.team_report.specs.LogText.{waiting_links}
use Rattle.team_report.proofs.Waits.{waits_written}
use Rattle.team_report.proofs.log.write_waiting.Goals as goal

pub returns : goal.returns
returns c =
    let links = c.args.graph.now.links in
    let waiting = linked c.links.result.now c.deref.result.now in
    let are : waiting ≡ waiting_links links = (λ i. linked (c.links.ensures i) (c.deref.ensures.value i)) ∙ c.in_ok-entries.ensures.links in
    on_ok_weaker c.write_entries.result (λ end. waits_written links waiting c.args.out.now c.write_entries.new.out are end) c.write_entries.ensures
