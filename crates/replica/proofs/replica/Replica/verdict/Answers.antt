use Rattle.std.proofs.Common.{◌≡◌, ◌∙◌, None, Some, Option, ap, sym, subst}
use Rattle.team_model.specs.declared.terms.Verdict.{Verdict}
use Rattle.team_model.specs.declared.terms.Verdict.TheVariants.{Waiting}
use Rattle.link_graph.specs.Held.{Held}
use Rattle.replica.specs.Views.{verdict_named}
use Rattle.replica.proofs.Named.{verdict_at, verdict_none, verdict_waits}
use Rattle.replica.proofs.replica.Replica.verdict.Goals as goal

pub returns-in-Some : goal.returns-in-Some
returns-in-Some c =
    subst (λ (h : Held). ◌≡◌ {A = Option Verdict} (Some c.index-as_slice-position.result) (verdict_named h.links c.args.name.now)) c.self.view_is
    (ap (λ (v : Verdict). Some v) c.index-as_slice-position.is
    ∙ verdict_at c.self.inside.graph.links c.is_held.ensures.set c.args.name.now c.in-Some.position c.as_slice.result.now c.index-as_slice-position.result
    (sym c.position.ensures ∙ c.in-Some.is) (c.as_slice.ensures ∙ c.self.invariant.view.verdicts))

pub returns-then-holds : goal.returns-then-holds
returns-then-holds c =
    subst (λ (h : Held). ◌≡◌ {A = Option Verdict} (Some Waiting) (verdict_named h.links c.args.name.now)) c.self.view_is
    (verdict_waits c.self.inside.graph.links c.is_held.ensures.set c.args.name.now (sym c.position.ensures ∙ c.in-None.is) (sym c.holds.ensures ∙ c.if-holds.true))

pub returns-else-holds : goal.returns-else-holds
returns-else-holds c =
    subst (λ (h : Held). ◌≡◌ {A = Option Verdict} None (verdict_named h.links c.args.name.now)) c.self.view_is
    (verdict_none c.self.inside.graph.links c.is_held.ensures.set c.args.name.now (sym c.holds.ensures ∙ c.if-holds.false))
