use Rattle.std.proofs.Common.{◌∙◌, ◌∷◌, ◌++◌, [], ap, map, sym, take, arith}
use Rattle.std.proofs.lemmas.List.{map-append}
use Rattle.link_graph.specs.Held.{arrived_of}
use Rattle.replica.specs.Resolving.{first_verdict}
use Rattle.link_graph.proofs.Picks.{some_at, take_next}
use Rattle.replica.proofs.before_turns.first_verdicts.Goals as goal

pub loop-position-preserved : goal.loop-position-preserved
loop-position-preserved c =
    let links = c.args.graph.now.links in
    let x = some_at (arrived_of links) c.loop-position.position (omega arith) in
    c.in_ok-push.ensures.items ∙ ap (λ l. l ++ c.first_verdict.result ∷ []) c.loop-position.invariant
    ∙ ap (λ v. map (first_verdict links) (take c.loop-position.position (arrived_of links)) ++ v ∷ []) (c.first_verdict.ensures x.0 x.1)
    ∙ sym (ap (map (first_verdict links)) (take_next (arrived_of links) c.loop-position.position x.0 x.1)
    ∙ map-append (first_verdict links) (take c.loop-position.position (arrived_of links)) (x.0 ∷ []))
