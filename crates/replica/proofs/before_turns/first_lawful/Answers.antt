use Rattle.std.proofs.Common.{◌≡◌, ◌∙◌, Bool, Option, Some, ap, get_or, subst, sym}
use Rattle.team_model.specs.Strikes.{is_striking}
use Rattle.team_model.specs.declared.terms.Link.{Link}
use Rattle.replica.specs.Resolving.{verdict_by}
use Rattle.replica.proofs.Fallen.{decision_given, none_strikes, striker_falls, striker_given, struck_falls, unstruck_stays}
use Rattle.replica.proofs.before_turns.first_lawful.Goals as goal

pub decided-requires : goal.decided-requires
decided-requires c =
    let x = c.link_at.result.now in
    rw c.decision_at.ensures
    (decision_given c.args.graph.now.links c.is_held.ensures.set c.args.settled.now c.requires.settled c.args.position x c.link_at.ensures (c.requires.lawful x c.link_at.ensures)
    (sym c.is_striking.ensures ∙ c.if-is_striking.true))

pub returns-then-is_striking : goal.returns-then-is_striking
returns-then-is_striking c = λ x at.
    let one : ◌≡◌ {A = Option Link} (Some c.link_at.result.now) (Some x) = sym c.link_at.ensures ∙ at in
    let same : c.link_at.result.now ≡ x = cc in
    c.decided.ensures ∙ ap (verdict_by c.args.graph.now.links) c.decision_at.ensures
    ∙ striker_falls c.args.graph.now.links c.is_held.ensures.set c.args.settled.now c.requires.settled c.args.position x at (c.requires.lawful x at)
    (ap (λ (z : Link). is_striking z.entry.act) (sym same) ∙ sym c.is_striking.ensures ∙ c.if-is_striking.true)

pub returns-then-not-index : goal.returns-then-not-index
returns-then-not-index c = λ x at.
    let one : ◌≡◌ {A = Option Link} (Some c.link_at.result.now) (Some x) = sym c.link_at.ensures ∙ at in
    let same : c.link_at.result.now ≡ x = cc in
    unstruck_stays c.args.graph.now.links c.is_held.ensures.set c.args.settled.now c.requires.settled c.args.position x at (c.requires.lawful x at)
    (ap (λ (z : Link). is_striking z.entry.act) (sym same) ∙ sym c.is_striking.ensures ∙ c.if-is_striking.false) (subst (λ (b : Bool). get_or c.args.settled.now.struck.items c.args.position b ≡ b) c.if-not-index.true (sym c.index.ensures))

pub link_at-requires-in-Some : goal.link_at-requires-in-Some
link_at-requires-in-Some c =
    let x = c.link_at.result.now in
    record {
      given = striker_given c.args.graph.now.links c.is_held.ensures.set c.args.settled.now c.requires.settled c.args.position x c.link_at.ensures (c.requires.lawful x c.link_at.ensures)
          (sym c.is_striking.ensures ∙ c.if-is_striking.false) c.in-Some.striker (sym c.first_striker.ensures ∙ c.in-Some.is);
    }

pub returns-in-Some : goal.returns-in-Some
returns-in-Some c = λ x at.
    let one : ◌≡◌ {A = Option Link} (Some c.link_at.result.now) (Some x) = sym c.link_at.ensures ∙ at in
    let same : c.link_at.result.now ≡ x = cc in
    struck_falls c.args.graph.now.links c.is_held.ensures.set c.args.settled.now c.requires.settled c.args.position x at (c.requires.lawful x at)
    (ap (λ (z : Link). is_striking z.entry.act) (sym same) ∙ sym c.is_striking.ensures ∙ c.if-is_striking.false)
    c.in-Some.striker c.link_at-in-Some.result.now (sym c.first_striker.ensures ∙ c.in-Some.is) c.link_at-in-Some.ensures

pub returns-in-None : goal.returns-in-None
returns-in-None c = λ x at.
    let one : ◌≡◌ {A = Option Link} (Some c.link_at.result.now) (Some x) = sym c.link_at.ensures ∙ at in
    let same : c.link_at.result.now ≡ x = cc in
    none_strikes c.args.graph.now.links c.is_held.ensures.set c.args.settled.now c.requires.settled c.args.position x at (c.requires.lawful x at)
    (ap (λ (z : Link). is_striking z.entry.act) (sym same) ∙ sym c.is_striking.ensures ∙ c.if-is_striking.false) (sym c.first_striker.ensures ∙ c.in-None.is)
