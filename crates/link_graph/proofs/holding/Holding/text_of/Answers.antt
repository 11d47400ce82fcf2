use Rattle.std.proofs.Common.{◌∙◌, ap, List, ℕ, Some}
use Rattle.link_graph.proofs.Names.{texts_named}
use Rattle.link_graph.proofs.holding.Holding.text_of.Goals as goal

pub returns-in-Some : goal.returns-in-Some
returns-in-Some c =
    rw (← c.self.view_is)
    (ap (λ (t : List ℕ). Some t) c.as_slice.ensures ∙ c.in-Some.ensures.value ∙ texts_named c.args.name.now c.self.inside.links.items c.self.inside.texts.entries c.self.invariant)

pub returns-in-None : goal.returns-in-None
returns-in-None c = rw (← c.self.view_is) (c.in-None.ensures.value ∙ texts_named c.args.name.now c.self.inside.links.items c.self.inside.texts.entries c.self.invariant)
