use Rattle.std.proofs.Common.{◌∙◌}
use Rattle.indexmap.proofs.CallerLemmas.{insert_entry-new}
use Rattle.team_sets.specs.Names.{same_name}
use Rattle.link_graph.proofs.Names.{lookup_fresh, texts_push}
use Rattle.link_graph.proofs.holding.Holding.push.Goals as goal

pub invariant_of-self-in-Ok : goal.invariant_of-self-in-Ok
invariant_of-self-in-Ok c =
    let fresh = lookup_fresh c.args.link.name c.self.inside.links.items c.self.inside.texts.entries c.self.invariant (rw (← c.self.view_is) at c.requires.fresh) in
    texts_push c.self.inside.links.items c.push.new.self.items c.args.link c.self.inside.texts.entries c.insert.new.self.entries _ c.self.invariant
    (c.in-Ok.ensures.entries ∙ insert_entry-new same_name c.self.inside.texts c.args.link.name _ fresh) (c.in_ok-text.ensures ∙ c.requires.text) c.in_ok-push.ensures.items
