use Rattle.std.proofs.Common.{◌∙◌, ap, List, ℕ}
use Rattle.link_graph.specs.Held.{arrived_of}
use Rattle.link_graph.specs.Positions.{at_places}
use Rattle.link_graph.proofs.Facts.{order_is}
use Rattle.link_graph.proofs.graph.Graph.order.Goals as goal

pub returns-clause-order : goal.returns-clause-order
returns-clause-order c =
    rw (← c.self.view_is)
    (ap (λ (l : List ℕ). at_places (arrived_of c.self.inside.web.holding) l) c.as_slice.ensures.value ∙ c.self.invariant.fits.connected.lineup.order ∙ order_is c.self.inside.web.holding c.self.invariant.fits.set)
