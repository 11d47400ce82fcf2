use Rattle.std.proofs.Common.{◌∙◌, sym, ap, arith, position, ℕ, List}
use Rattle.std.proofs.lemmas.List.{length-map}
use Rattle.std.specs.Map.{keys_of}
use Rattle.team_sets.specs.Names.{Name, same_name}
use Rattle.link_graph.specs.Held.{arrived_of}
use Rattle.link_graph.proofs.Facts.{connected_few, keys_arrived, position_few}
use Rattle.link_graph.proofs.graph.Graph.position.Goals as goal

pub overflow_cast-result : goal.overflow_cast-result
overflow_cast-result c =
    let within = position_few c.args.name.now (keys_of c.self.inside.web.connected) c.in-Some.position (sym c.in-Some.ensures) in
    let size = length-map c.self.inside.web.connected (λ (e : Name × ℕ). e.0) in
    let few = connected_few c.self.inside.web c.self.invariant.fits in
    omega (arith, within, size, few)

pub returns-in-Some : goal.returns-in-Some
returns-in-Some c =
    rw (← c.self.view_is)
    (c.in-Some.ensures ∙ ap (λ (ns : List Name). position (same_name c.args.name.now) ns) (keys_arrived c.self.inside.web (arrived_of c.self.inside.web.holding) c.self.invariant.fits.connected))

pub returns-in-None : goal.returns-in-None
returns-in-None c =
    rw (← c.self.view_is)
    (c.in-None.ensures ∙ ap (λ (ns : List Name). position (same_name c.args.name.now) ns) (keys_arrived c.self.inside.web (arrived_of c.self.inside.web.holding) c.self.invariant.fits.connected))
