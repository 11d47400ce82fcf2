use Rattle.team_report.specs.LogText.{log_text}
use Rattle.report_commands.proofs.OfHeld.{of_held}
use Rattle.report_commands.proofs.log.log_graph.Goals as goal

pub returns : goal.returns
returns c = of_held (λ held. log_text held.links) c.in_ok-replica.replica c.args.graph c.log_text.result c.in_ok-replica.ensures c.log_text.ensures
