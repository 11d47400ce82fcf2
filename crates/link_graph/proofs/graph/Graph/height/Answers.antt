use Rattle.std.proofs.Common.{◌∙◌, ap, arith, length}
use Rattle.ancestry.specs.Positions.{Parents}
use Rattle.link_graph.specs.Held.{arrived_of}
use Rattle.link_graph.proofs.Ancestries.{height-at, many-parents}
use Rattle.link_graph.proofs.graph.Graph.height.Goals as goal

pub height-requires : goal.height-requires
height-requires c =
    let given = rw (← c.self.view_is) at c.requires.given in
    let count = ap (λ (l : Parents). length l) c.self.invariant.parents ∙ many-parents (arrived_of c.self.inside.web.holding) in
    record { given = omega (arith, given, count) }

pub returns : goal.returns
returns c = rw (← c.self.view_is) (height-at c.self.inside.web.holding c.self.invariant.fits.set c.args.position c.self.inside.ancestry c.height.result c.self.invariant.parents c.height.ensures)
