use Rattle.std.proofs.Common.{[], ◌∷◌, arith, refl}
use Rattle.link_graph.specs.Held.{Held}
use Rattle.outcomes.specs.Refusing.{opening}
use Rattle.outcomes.proofs.Opened.{goes_on, refusal_among, refused}
use Rattle.openers.specs.Team.{FindsTeam}
use Rattle.exchange_commands.specs.Meet.{meeting}
use Rattle.exchange_commands.proofs.meet.answer_meet.Goals as goal

pub returns-in_err-two-clause-body : goal.returns-in_err-two-clause-body
returns-in_err-two-clause-body g c = λ rest.
    let file = c.args.file.now in
    let other = c.args.other.now in
    let one : Held = c.in_ok-one.one in
    goes_on FindsTeam file (λ h. opening FindsTeam other (λ t. meeting file other h t)) rest _ _ _ _ one c.in_ok-one.ensures.opened c.in_ok-one.ensures.same
    (refused FindsTeam other (λ t. meeting file other one t) rest _ _ _ c.in_err-two.field-0.0 c.from_residual-in_err-two.ensures.1 c.in_err-two.ensures.opened c.in_err-two.ensures.same)

pub returns-in_err-two-clause-status : goal.returns-in_err-two-clause-status
returns-in_err-two-clause-status g c =
    refusal_among Held (0 ∷ 1 ∷ 3 ∷ 4 ∷ []) 3 _ c.in_err-two.field-0.0 (2, omega arith, refl) c.from_residual-in_err-two.ensures.1 c.in_err-two.ensures.refused

pub returns-clause-body : goal.returns-clause-body
returns-clause-body g c = λ rest.
    let file = c.args.file.now in
    let other = c.args.other.now in
    let one : Held = c.in_ok-one.one in
    let two : Held = c.in_ok-two.two in
    goes_on FindsTeam file (λ h. opening FindsTeam other (λ t. meeting file other h t)) rest _ _ _ _ one c.in_ok-one.ensures.opened c.in_ok-one.ensures.same
    (goes_on FindsTeam other (λ t. meeting file other one t) rest _ _ _ _ two c.in_ok-two.ensures.opened c.in_ok-two.ensures.same (c.meet_opened.ensures.body rest))
