use Rattle.std.proofs.Common.{◌∙◌}
use Rattle.link_graph.proofs.Facts.{heads_are}
use Rattle.link_graph.proofs.graph.Graph.heads.Goals as goal

pub returns : goal.returns
returns c = rw (← c.self.view_is) (c.as_slice.ensures.value ∙ c.self.invariant.fits.connected.lineup.heads ∙ heads_are c.self.inside.web.holding c.self.invariant.fits.set)
