use Rattle.std.proofs.Common.{◌∙◌, ap, sym}
use Rattle.std.specs.Option.{option_map}
use Rattle.std.specs.Map.Iter.{deref_pair}
use Rattle.link_graph.proofs.Names.{text_at_place}
use Rattle.link_graph.proofs.holding.Holding.text_at.Goals as goal

pub returns : goal.returns
returns c =
    rw (← c.self.view_is)
    (text_at_place c.self.inside.links.items c.self.inside.texts.entries c.args.place c.unwrap.result.0.now c.unwrap.result.1.now c.as_slice.result.now c.self.invariant
    (sym c.get_index.ensures.entry ∙ ap (λ o. option_map deref_pair o) c.unwrap.ensures) c.as_slice.ensures)
