use Rattle.std.proofs.Common.{◌∙◌}
use Rattle.link_graph.proofs.Names.{has_lookup}
use Rattle.link_graph.proofs.connected.Connected.has.Goals as goal

pub returns : goal.returns
returns c = rw (← c.self.view_is) (c.contains_key.ensures ∙ has_lookup c.args.name.now c.self.inside.places.entries)
