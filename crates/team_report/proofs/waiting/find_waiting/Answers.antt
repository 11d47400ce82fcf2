use Rattle.std.proofs.Common.{not}
use Rattle.team_report.specs.LogText.{is_connected}
use Rattle.team_report.proofs.Waits.{sorted_links}
use Rattle.team_report.proofs.waiting.find_waiting.Goals as goal

pub returns-clause-links : goal.returns-clause-links
returns-clause-links c =
    sorted_links c.args.graph.now.links (λ x. not (is_connected c.args.graph.now.links x)) c.in_ok-entries.entries.items c.sort_entries.new.entries.items c.is_held.ensures.set
    c.in_ok-entries.ensures.entries c.in_ok-entries.ensures.links c.in_ok-sort_entries.ensures.same c.in_ok-sort_entries.ensures.sorted
