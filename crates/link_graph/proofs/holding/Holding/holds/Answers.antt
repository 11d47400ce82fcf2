use Rattle.std.proofs.Common.{◌∙◌}
use Rattle.link_graph.proofs.Names.{has_texts}
use Rattle.link_graph.proofs.holding.Holding.holds.Goals as goal

pub returns : goal.returns
returns c = rw (← c.self.view_is) (c.contains_key.ensures ∙ has_texts c.args.name.now c.self.inside.links.items c.self.inside.texts.entries c.self.invariant)
