use Rattle.std.proofs.Common.{◌∙◌, ℕ, List, ap, length}
use Rattle.std.proofs.lemmas.Result.{IfOk-weaker}
use Rattle.link_graph.specs.Held.{arrived_of}
use Rattle.link_graph.specs.Positions.{at_places}
use Rattle.replica.specs.Below.{is_below}
use Rattle.replica.proofs.Belows.{marks_below}
use Rattle.replica.proofs.Pasts.{below_is_part, team_is}
use Rattle.replica.proofs.folding.team_below.Goals as goal

pub resolve-requires-clause-part : goal.resolve-requires-clause-part
resolve-requires-clause-part g c =
    let links = c.args.graph.now.links in (
      λ x. is_below links c.args.names.now x.name,
      below_is_part links c.is_held.ensures.set (length c.args.judged.now.reasons.items) c.args.names.now c.deref.result.now c.requires.given (c.deref.ensures.value ∙ c.in_ok-marked.ensures
          ∙ marks_below links c.is_held.ensures.set (length c.args.judged.now.reasons.items) c.args.names.now c.requires.given),
    )

pub returns : goal.returns
returns g c =
    let links = c.args.graph.now.links in
    IfOk-weaker c.fold_links.result _ _
    (λ s folded. team_is links c.is_held.ensures.set (length c.args.judged.now.reasons.items) c.args.names.now c.deref.result.now c.deref-2.result.now s c.requires.given
    (c.deref.ensures.value ∙ c.in_ok-marked.ensures
    ∙ marks_below links c.is_held.ensures.set (length c.args.judged.now.reasons.items) c.args.names.now c.requires.given)
    (λ part is. ap (λ (l : List ℕ). at_places (arrived_of links) l) c.deref-2.ensures.value ∙ c.in_ok-resolved.ensures.positions part is) folded)
    c.fold_links.ensures
