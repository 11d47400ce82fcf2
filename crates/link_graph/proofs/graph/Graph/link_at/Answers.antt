use Rattle.std.proofs.Common.{◌≡◌, ◌∙◌, sym, ap, arith, slice_get, List}
use Rattle.team_model.specs.declared.terms.Link.{Link}
use Rattle.link_graph.specs.Held.{Held}
use Rattle.link_graph.proofs.Facts.{connected_count}
use Rattle.link_graph.proofs.Fitting.{entry_at}
use Rattle.link_graph.proofs.Names.{get_within}
use Rattle.link_graph.proofs.graph.Graph.link_at.Goals as goal

pub place_at-requires : goal.place_at-requires
place_at-requires c =
    let given = rw (← c.self.view_is) at c.requires.given in
    let count = connected_count c.self.inside.web c.self.invariant.fits in
    record { given = omega (arith, given, count) }

pub link_of-requires : goal.link_of-requires
link_of-requires c =
    let y = entry_at c.self.inside.web.holding c.self.inside.web.connected c.args.position c.place_at.result c.self.invariant.fits.connected.entries c.place_at.ensures in
    let there : c.links.result.now ≡ c.self.inside.web.holding = c.links.ensures ∙ ap (λ (h : Held). h.links) (sym c.self.view_is) in
    record { held = rw there (get_within c.self.inside.web.holding c.place_at.result y.0 y.1) }

pub returns : goal.returns
returns c =
    let y = entry_at c.self.inside.web.holding c.self.inside.web.connected c.args.position c.place_at.result c.self.invariant.fits.connected.entries c.place_at.ensures in
    let there : c.links.result.now ≡ c.self.inside.web.holding = c.links.ensures ∙ ap (λ (h : Held). h.links) (sym c.self.view_is) in
    rw (← c.self.view_is)
    (ap (λ (l : List Link). slice_get l c.args.position) (sym c.self.invariant.fits.connected.linked) ∙ y.2 ∙ sym y.1 ∙ ap (λ (l : List Link). slice_get l c.place_at.result) (sym there) ∙ c.link_of.ensures)
