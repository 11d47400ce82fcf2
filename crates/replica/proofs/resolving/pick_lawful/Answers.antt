use Rattle.std.proofs.Common.{◌≡◌, ◌<◌, ◌∙◌, ℕ, List, All, ap, filter, length, sym, subst, arith}
use Rattle.std.proofs.lemmas.List.{take_all}
use Rattle.std.proofs.lemmas.List.Elements.{All-filter}
use Rattle.sha2.specs.Sha256.{sha256}
use Rattle.team_model.specs.declared.terms.Link.{Link}
use Rattle.link_graph.specs.Held.{arrived_of}
use Rattle.replica.specs.Judged.{is_picked}
use Rattle.replica.specs.Settling.{AreLawful}
use Rattle.replica.proofs.Resolves.{are_lawful, lawful_picked}
use Rattle.replica.proofs.resolving.pick_lawful.Goals as goal

pub returns-clause-given : goal.returns-clause-given
returns-clause-given c =
    let order = c.order-position-items.result.now in
    let picked = is_picked c.args.marked.now c.args.reasons.now in
    let all : c.loop-position.found.items ≡ filter picked order = c.loop-position.invariant ∙ ap (λ (l : List ℕ). filter picked l) (take_all c.loop-position.position-index order (omega arith)) in
    subst (λ (l : List ℕ). All (λ p. p < length (arrived_of c.args.graph.now.links)) l) (sym all)
    (All-filter picked (λ p. p < length (arrived_of c.args.graph.now.links)) order c.order-position-items.ensures.given)

pub returns-clause-of_part : goal.returns-clause-of_part
returns-clause-of_part c = λ part is.
    let order = c.order-position-items.result.now in
    let picked = is_picked c.args.marked.now c.args.reasons.now in
    let all : c.loop-position.found.items ≡ filter picked order = c.loop-position.invariant ∙ ap (λ (l : List ℕ). filter picked l) (take_all c.loop-position.position-index order (omega arith)) in
    lawful_picked c.args.graph.now.links c.is_held.ensures.set c.args.reasons.now c.requires.judged c.args.marked.now part is order c.loop-position.found.items c.order-position-items.ensures.order all

pub returns-clause-lawful : goal.returns-clause-lawful
returns-clause-lawful c =
    let links = c.args.graph.now.links in
    let order = c.order-position-items.result.now in
    let picked = is_picked c.args.marked.now c.args.reasons.now in
    let all : c.loop-position.found.items ≡ filter picked order = c.loop-position.invariant ∙ ap (λ (l : List ℕ). filter picked l) (take_all c.loop-position.position-index order (omega arith)) in
    let part = c.requires.part in
    subst (λ (l : List Link). AreLawful links c.args.reasons.now c.args.marked.now l)
    (sym (lawful_picked links c.is_held.ensures.set c.args.reasons.now c.requires.judged c.args.marked.now part.0 part.1 order c.loop-position.found.items c.order-position-items.ensures.order all))
    (are_lawful links c.is_held.ensures.set c.args.reasons.now c.requires.judged c.args.marked.now part.0 part.1 (c.rank_is_defined.ensures.team sha256))
