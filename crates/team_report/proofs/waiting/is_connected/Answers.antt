use Rattle.std.proofs.Common.{◌∙◌, sym}
use Rattle.link_graph.proofs.Placed.{connected_at}
use Rattle.team_report.proofs.waiting.is_connected.Goals as goal

pub returns : goal.returns
returns c = c.is_some.ensures ∙ connected_at c.args.graph.now.links c.is_held.ensures.set c.args.link.now.name c.position.result (sym c.position.ensures)
