use Rattle.std.proofs.Common.{◌∙◌, arith}
use Rattle.link_graph.proofs.Facts.{connected_count, connected_few}
use Rattle.link_graph.proofs.graph.Graph.connected.Goals as goal

pub overflow_cast-result : goal.overflow_cast-result
overflow_cast-result c = let few = connected_few c.self.inside.web c.self.invariant.fits in omega (arith, few, c.len.ensures)

pub returns : goal.returns
returns c = rw (← c.self.view_is) (c.len.ensures ∙ connected_count c.self.inside.web c.self.invariant.fits)
