use Rattle.team_model.specs.ShowText.{show_text}
use Rattle.report_commands.proofs.OfHeld.{of_held}
use Rattle.report_commands.proofs.show.show_graph.Goals as goal

pub returns : goal.returns
returns c = of_held (λ held. show_text held.team held.links) c.in_ok-replica.replica c.args.graph c.show_text.result c.in_ok-replica.ensures c.show_text.ensures
