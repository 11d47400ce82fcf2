use Rattle.std.proofs.Common.{◌≡◌, ◌∙◌, ℕ, Bool, List, Option, ap, filter, length, refl, subst}
use Rattle.link_graph.specs.Held.{arrived_of}
use Rattle.link_graph.specs.Positions.{at_places}
use Rattle.team_model.specs.Judging.{lawful, team_rules}
use Rattle.team_model.specs.declared.terms.Link.{Link}
use Rattle.team_model.specs.declared.terms.Reason.{Reason}
use Rattle.replica.specs.Judged.{ArePartOf}
use Rattle.replica.specs.Settling.{IsSettled, stays_at}
use Rattle.replica.proofs.Resolves.{is_resolved}
use Rattle.replica.proofs.resolving.resolve.Goals as goal

pub returns : goal.returns
returns c =
    let links = c.args.graph.now.links in
    let settled = c.in_ok-settled.settled in
    is_resolved links c.is_held.ensures.set c.args.judged.now.reasons.items c.requires.judged.reasons c.args.marked.now c.in_ok-lawful.lawful.items c.in_ok-positions.positions.items
    c.in_ok-lawful.ensures.given
    (subst (λ (r : List (Option Reason)). (part : Link → Bool) → ArePartOf links (length r) part c.args.marked.now
    → at_places (arrived_of links) c.in_ok-lawful.lawful.items ≡ filter part (lawful team_rules links)) c.deref.ensures.value c.in_ok-lawful.ensures.of_part)
    settled
    (subst (λ (l : List ℕ). IsSettled links (at_places (arrived_of links) l) settled) c.deref-2.ensures.value c.in_ok-settled.ensures)
    (c.in_ok-positions.ensures ∙ ap (λ (l : List ℕ). filter (stays_at links settled) l) c.deref-3.ensures.value) _ refl refl
