use Rattle.std.proofs.Common.{◌∙◌, ap, sym}
use Rattle.std.specs.Option.{option_map_or}
use Rattle.team_model.specs.declared.terms.Verdict.TheVariants.{Unlawful}
use Rattle.replica.specs.Resolving.{first_lawful}
use Rattle.replica.proofs.Fallen.{judged_at, lawful_here}
use Rattle.replica.proofs.before_turns.first_verdict.Goals as goal

pub first_lawful-requires-clause-lawful : goal.first_lawful-requires-clause-lawful
first_lawful-requires-clause-lawful c = λ x at.
    let links = c.args.graph.now.links in
    lawful_here links c.is_held.ensures.set c.args.position x at
    (sym c.in-None.is ∙ judged_at links c.is_held.ensures.set c.args.position x c.index.result.now c.index.result.now c.args.judged.now.reasons.items c.requires.judged at c.index.ensures)

pub returns-in-Some : goal.returns-in-Some
returns-in-Some c = λ x at.
    let links = c.args.graph.now.links in
    sym (ap (λ o. option_map_or (λ r. Unlawful r) o (first_lawful links x))
    (sym (judged_at links c.is_held.ensures.set c.args.position x c.index.result.now c.index.result.now c.args.judged.now.reasons.items c.requires.judged at c.index.ensures) ∙ c.in-Some.is))

pub returns-in-None : goal.returns-in-None
returns-in-None c = λ x at.
    let links = c.args.graph.now.links in
    c.first_lawful.ensures x at
    ∙ sym (ap (λ o. option_map_or (λ r. Unlawful r) o (first_lawful links x))
    (sym (judged_at links c.is_held.ensures.set c.args.position x c.index.result.now c.index.result.now c.args.judged.now.reasons.items c.requires.judged at c.index.ensures) ∙ c.in-None.is))
