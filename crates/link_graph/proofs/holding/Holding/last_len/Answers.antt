use Rattle.std.proofs.Common.{◌∙◌, ap, sym}
use Rattle.std.specs.Option.{option_map}
use Rattle.std.specs.Map.Iter.{deref_pair}
use Rattle.link_graph.proofs.Names.{last_size}
use Rattle.link_graph.proofs.holding.Holding.last_len.Goals as goal

pub returns : goal.returns
returns c =
    rw (← c.self.view_is)
    (last_size c.self.inside.links.items c.self.inside.texts.entries c.unwrap.result.0.now c.unwrap.result.1.now c.len.result c.self.invariant
    (sym c.last.ensures.entry ∙ ap (λ o. option_map deref_pair o) c.unwrap.ensures) c.len.ensures)
