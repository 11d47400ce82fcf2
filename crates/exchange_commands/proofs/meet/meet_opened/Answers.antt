use Rattle.std.proofs.Common.{◌≡◌, ◌∙◌, [], ◌∷◌, ℕ, Contains, inl, arith, rules, subst, sym}
use Rattle.tg_outside.specs.declared.fault.Fault.TheVariants as fault
use Rattle.link_graph.specs.Held.{Held}
use Rattle.outcomes.proofs.Printing.{body_fails, fault_answers_nothing}
use Rattle.outcomes.proofs.Stops.{replace_failed}
use Rattle.exchange_commands.specs.Meet.{meeting}
use Rattle.exchange_commands.proofs.Meeting.{agree, body_done, body_failed, body_of_two, cause_of_two, differ, met_among, status_of_two}
use Rattle.exchange_commands.proofs.meet.meet_opened.Goals as goal

pub returns-then-ne-clause-body : goal.returns-then-ne-clause-body
returns-then-ne-clause-body g c = λ rest.
    body_of_two c.args.file.now c.args.other.now c.args.one.now c.args.two.now rest (g.F.Files.files c.args.files.now) c.refuse_other_team.result c.refuse_other_team.ensures
    (differ c.team.result c.team-2.result c.args.one.now c.args.two.now c.ne.result c.ne.ensures c.team.ensures c.team-2.ensures c.if-ne.true)

pub returns-then-ne-clause-cause : goal.returns-then-ne-clause-cause
returns-then-ne-clause-cause g c = cause_of_two (g.F.Files.faults c.args.files.now) c.refuse_other_team.result c.refuse_other_team.ensures

pub returns-then-ne-clause-status : goal.returns-then-ne-clause-status
returns-then-ne-clause-status g c = status_of_two c.refuse_other_team.result c.refuse_other_team.ensures

pub returns-in_err-met-clause-body : goal.returns-in_err-met-clause-body
returns-in_err-met-clause-body g c = λ rest. body_fails (meeting c.args.file.now c.args.other.now c.args.one.now c.args.two.now) _ _ _ fault.Memory c.from_residual.ensures.1 (λ w is. inl is)

pub returns-in_err-text-clause-body : goal.returns-in_err-text-clause-body
returns-in_err-text-clause-body g c = λ rest. body_fails (meeting c.args.file.now c.args.other.now c.args.one.now c.args.two.now) _ _ _ fault.Memory c.from_residual-in_err-text.ensures.1 (λ w is. inl is)

pub returns-in_err-first_put-clause-body : goal.returns-in_err-first_put-clause-body
returns-in_err-first_put-clause-body g c = λ rest. body_fails (meeting c.args.file.now c.args.other.now c.args.one.now c.args.two.now) _ _ _ fault.Memory c.from_residual-in_err-first_put.ensures.1 (λ w is. inl is)

pub returns-in_err-second_put-clause-body : goal.returns-in_err-second_put-clause-body
returns-in_err-second_put-clause-body g c = λ rest. body_fails (meeting c.args.file.now c.args.other.now c.args.one.now c.args.two.now) _ _ _ fault.Memory c.from_residual-in_err-second_put.ensures.1 (λ w is. inl is)

pub returns-in_err-replace_all-clause-body : goal.returns-in_err-replace_all-clause-body
returns-in_err-replace_all-clause-body g c = λ rest.
    let one : Held = c.args.one.now in
    let two : Held = c.args.two.now in
    let kept : Held = c.meet.new.one in
    let given : Held = c.meet.new.two in
    let same = agree c.team.result c.team-2.result one two c.ne.result c.ne.ensures c.team.ensures c.team-2.ensures c.if-ne.false in
    body_failed c.args.file.now c.args.other.now one two kept given c.in_ok-met.met c.in_ok-met.ensures same rest _ _ _ c.in_err-replace_all.field-0.0 c.from_residual-in_err-replace_all.ensures.1
    (λ w is. rw (c.in_ok-first_put.ensures, c.in_ok-second_put.ensures) at (c.in_err-replace_all.ensures.cut rest w is))

pub returns-in_err-replace_all-clause-cause : goal.returns-in_err-replace_all-clause-cause
returns-in_err-replace_all-clause-cause g c =
    let n = g.F.Files.faults c.args.files.now in
    replace_failed n n n _ _ c.in_err-replace_all.field-0.0 c.from_residual-in_err-replace_all.ensures.1 (omega arith) (omega arith) c.in_err-replace_all.ensures.cause

pub returns-in_err-replace_all-clause-status : goal.returns-in_err-replace_all-clause-status
returns-in_err-replace_all-clause-status g c = fault_answers_nothing _ c.in_err-replace_all.field-0.0 _ c.from_residual-in_err-replace_all.ensures.1

pub returns-clause-body : goal.returns-clause-body
returns-clause-body g c = λ rest.
    let one : Held = c.args.one.now in
    let two : Held = c.args.two.now in
    let kept : Held = c.meet.new.one in
    let given : Held = c.meet.new.two in
    let same = agree c.team.result c.team-2.result one two c.ne.result c.ne.ensures c.team.ensures c.team-2.ensures c.if-ne.false in
    body_done c.args.file.now c.args.other.now one two kept given c.in_ok-met.met c.in_ok-met.ensures same rest _ _ _ c.met_status-status.ensures (search (rules, c.in_ok-text.ensures))
    (λ w is. rw (c.in_ok-first_put.ensures, c.in_ok-second_put.ensures) at (c.in_ok-replace_all.ensures.done rest w is))

pub returns-clause-status : goal.returns-clause-status
returns-clause-status g c = subst (λ (n : ℕ). Contains {X = ℕ} (0 ∷ 1 ∷ 3 ∷ 4 ∷ []) n) (sym c.met_status-status.ensures) (met_among c.in_ok-met.met)
