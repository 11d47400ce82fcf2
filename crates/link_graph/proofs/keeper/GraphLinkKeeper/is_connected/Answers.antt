use Rattle.std.proofs.Common.{◌∙◌, sym}
use Rattle.link_graph.proofs.Placed.{connected_at}
use Rattle.link_graph.proofs.keeper.GraphLinkKeeper.is_connected.Goals as goal

pub returns : goal.returns
returns c = c.is_some.ensures ∙ connected_at c.args.self.now.links c.is_held.ensures.set c.args.name.now c.position.result (sym c.position.ensures)
