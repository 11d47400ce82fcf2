use Rattle.std.proofs.Common.{◌∙◌, ℕ, List, ap, filter, arith}
use Rattle.std.proofs.lemmas.List.{take_all}
use Rattle.link_graph.specs.Below.{is_kept}
use Rattle.link_graph.proofs.Kept.{are_below}
use Rattle.link_graph.proofs.below.find_below.Goals as goal

pub returns : goal.returns
returns c =
    let order = c.order-position-items.result.now in
    let kept = is_kept c.in_ok-wanted.wanted.items c.in_ok-unwanted.unwanted.items in
    are_below c.args.graph.now.links c.args.names.now c.args.not_below.now c.in_ok-wanted.wanted.items c.in_ok-unwanted.unwanted.items c.in_ok-wanted.ensures c.in_ok-unwanted.ensures
    order c.loop-position.found.items c.order-position-items.ensures.order c.order-position-items.ensures.given
    (c.loop-position.invariant ∙ ap (λ (l : List ℕ). filter kept l) (take_all c.loop-position.position-index order (omega arith)))
