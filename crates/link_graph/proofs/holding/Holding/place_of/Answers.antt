use Rattle.std.proofs.Common.{◌∙◌, sym}
use Rattle.link_graph.proofs.Names.{has_texts, some_named, place_texts}
use Rattle.link_graph.proofs.holding.Holding.place_of.Goals as goal

pub unwrap-requires : goal.unwrap-requires
unwrap-requires c =
    some_named c.get_index_of.result _ c.get_index_of.ensures.found
    (has_texts c.args.name.now c.self.inside.links.items c.self.inside.texts.entries c.self.invariant ∙ rw (← c.self.view_is) at c.requires.held)

pub returns : goal.returns
returns c =
    rw (← c.self.view_is)
    (place_texts c.args.name.now c.self.inside.links.items c.self.inside.texts.entries c.self.invariant c.unwrap.result (sym c.get_index_of.ensures.index ∙ c.unwrap.ensures))
