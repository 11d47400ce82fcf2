use Rattle.std.proofs.Common.{◌∙◌, ℕ, List, ap, filter}
use Rattle.replica.specs.Settling.{is_between}
use Rattle.replica.proofs.Acts.{are_strikers}
use Rattle.replica.proofs.Noting.{pairs_within}
use Rattle.replica.proofs.Settles.{decided_as}
use Rattle.replica.proofs.settling.decide.Goals as goal

pub pairs_between-requires-clause-within : goal.pairs_between-requires-clause-within
pairs_between-requires-clause-within c =
    rw c.deref.ensures.value (pairs_within c.args.graph.now.links c.args.judged.now.reasons.items c.args.judged.now.strikes.items c.requires.judged.reasons c.requires.judged.strikes)

pub settle_all-requires : goal.settle_all-requires
settle_all-requires c =
    let links = c.args.graph.now.links in
    let of = c.requires.acts in
    rw (of.1.acts, c.deref-2.ensures.value, c.in_ok-pairs.ensures, c.deref.ensures.value)
    (are_strikers links c.is_held.ensures.set c.args.judged.now.reasons.items c.args.marked.now of.0 of.1.lawful c.args.judged.now.strikes.items c.requires.judged.strikes)

pub returns : goal.returns
returns c =
    decided_as c.args.graph.now.links c.is_held.ensures.set c.args.judged.now.reasons.items c.args.marked.now c.args.judged.now.strikes.items c.requires.judged.strikes c.rank_is_by_seniority.ensures
    c.args.acts.now c.deref-2.result.now c.in_ok-decisions.decisions.items
    (c.deref-2.ensures.value ∙ c.in_ok-pairs.ensures ∙ ap (λ (l : List (ℕ × ℕ)). filter (is_between c.args.graph.now.links c.args.marked.now) l) c.deref.ensures.value) c.in_ok-decisions.ensures
