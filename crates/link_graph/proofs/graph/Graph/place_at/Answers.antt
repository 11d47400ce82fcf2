use Rattle.std.proofs.Common.{◌∙◌, sym, ap, arith, slice_get, List}
use Rattle.team_model.specs.declared.terms.Link.{Link}
use Rattle.link_graph.proofs.Facts.{connected_count}
use Rattle.link_graph.proofs.Fitting.{entry_at}
use Rattle.link_graph.proofs.graph.Graph.place_at.Goals as goal

pub place_at-requires : goal.place_at-requires
place_at-requires c =
    let given = rw (← c.self.view_is) at c.requires.given in
    let count = connected_count c.self.inside.web c.self.invariant.fits in
    record { given = omega (arith, given, count) }

pub returns : goal.returns
returns c =
    let y = entry_at c.self.inside.web.holding c.self.inside.web.connected c.args.position c.place_at.result c.self.invariant.fits.connected.entries c.place_at.ensures in
    rw (← c.self.view_is) (y.1 ∙ sym y.2 ∙ ap (λ (l : List Link). slice_get l c.args.position) c.self.invariant.fits.connected.linked)
