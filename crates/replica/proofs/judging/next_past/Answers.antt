use Rattle.std.proofs.Common.{◌∙◌, ℕ, List, ap, sym, subst}
use Rattle.std.proofs.lemmas.Result.{IfOk-weaker}
use Rattle.team_sets.specs.Names.{Name}
use Rattle.team_model.specs.Judging.{team, team_rules}
use Rattle.replica.specs.Below.{with_pasts}
use Rattle.replica.specs.Judged.{AreGiven}
use Rattle.link_graph.proofs.Arrived.{parents_given}
use Rattle.replica.proofs.Pasts.{from_parents}
use Rattle.replica.proofs.judging.next_past.Goals as goal

pub team_below-requires-clause-given : goal.team_below-requires-clause-given
team_below-requires-clause-given g c =
    let links = c.args.graph.now.links in
    subst (λ (n : ℕ). AreGiven links n c.as_slice-parents.result.now) (sym c.requires.next)
    (subst (λ (ns : List Name). AreGiven links c.args.position ns) (sym c.as_slice-parents.ensures)
    (parents_given links c.is_held.ensures.set c.args.position c.link_at.result.now c.link_at.ensures))

pub returns-in_default : goal.returns-in_default
returns-in_default g c =
    let links = c.args.graph.now.links in
    IfOk-weaker c.team_below.result _ _
    (λ s is. from_parents links c.is_held.ensures.set c.args.position c.link_at.result.now s c.link_at.ensures
    (is ∙ ap (λ (ns : List Name). team team_rules (with_pasts links ns)) c.as_slice-parents.ensures))
    c.team_below.ensures
