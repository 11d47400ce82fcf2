use Rattle.team_report.specs.HeadsText.{heads_text}
use Rattle.report_commands.proofs.OfHeld.{of_held}
use Rattle.report_commands.proofs.heads.heads_graph.Goals as goal

pub returns : goal.returns
returns c = of_held (λ held. heads_text held.links) c.in_ok-replica.replica c.args.graph c.heads_text.result c.in_ok-replica.ensures c.heads_text.ensures
