use Rattle.std.proofs.Common.{[], ◌∷◌, ℕ, List, Contains, arith, inl, refl, subst, sym}
use Rattle.std.specs.List.{list_any}
use Rattle.tg_outside.specs.declared.fault.Fault.TheVariants as fault
use Rattle.link_graph.specs.Held.{Held}
use Rattle.link_text.specs.TeamFile.{file_text}
use Rattle.link_intake.specs.ResultsText.{is_refused, results_status, results_text}
use Rattle.outcomes.specs.Refusing.{FindsBytes, opening}
use Rattle.outcomes.proofs.Opened.{goes_on, refusal_among, refused}
use Rattle.outcomes.proofs.Printing.{body_cut, body_fails, body_replaced, fault_answers_nothing}
use Rattle.outcomes.proofs.Stops.{replace_failed}
use Rattle.openers.specs.Team.{FindsTeam}
use Rattle.exchange_commands.specs.Merge.{merging}
use Rattle.exchange_commands.proofs.Statuses.{status_among}
use Rattle.exchange_commands.proofs.merge.answer_merge.Goals as goal

pub returns-in_err-given-clause-body : goal.returns-in_err-given-clause-body
returns-in_err-given-clause-body g c = λ rest.
    let file = c.args.file.now in
    let bundle = c.args.bundle.now in
    let held : Held = c.in_ok-graph.graph in
    goes_on FindsTeam file (λ h. opening FindsBytes bundle (λ b. merging file h b)) rest _ _ _ _ held c.in_ok-graph.ensures.opened c.in_ok-graph.ensures.same
    (refused FindsBytes bundle (λ b. merging file held b) rest _ _ _ c.in_err-given.field-0.0 c.from_residual-in_err-given.ensures.1 c.in_err-given.ensures.opened c.in_err-given.ensures.same)

pub returns-in_err-given-clause-status : goal.returns-in_err-given-clause-status
returns-in_err-given-clause-status g c =
    refusal_among (List ℕ) (0 ∷ 1 ∷ 3 ∷ []) 3 _ c.in_err-given.field-0.0 (2, omega arith, refl) c.from_residual-in_err-given.ensures.1 c.in_err-given.ensures.refused

pub returns-in_err-text-clause-body : goal.returns-in_err-text-clause-body
returns-in_err-text-clause-body g c = λ rest.
    let file = c.args.file.now in
    let bundle = c.args.bundle.now in
    let held : Held = c.in_ok-graph.graph in
    let given = c.in_ok-given.given in
    goes_on FindsTeam file (λ h. opening FindsBytes bundle (λ b. merging file h b)) rest _ _ _ _ held c.in_ok-graph.ensures.opened c.in_ok-graph.ensures.same
    (goes_on FindsBytes bundle (λ b. merging file held b) rest _ _ _ _ given c.in_ok-given.ensures.opened c.in_ok-given.ensures.same
    (body_fails (merging file held given) _ _ _ fault.Memory c.from_residual-in_err-text.ensures.1 (λ w is. inl is)))

pub returns-in_err-bytes-clause-body : goal.returns-in_err-bytes-clause-body
returns-in_err-bytes-clause-body g c = λ rest.
    let file = c.args.file.now in
    let bundle = c.args.bundle.now in
    let held : Held = c.in_ok-graph.graph in
    let given = c.in_ok-given.given in
    goes_on FindsTeam file (λ h. opening FindsBytes bundle (λ b. merging file h b)) rest _ _ _ _ held c.in_ok-graph.ensures.opened c.in_ok-graph.ensures.same
    (goes_on FindsBytes bundle (λ b. merging file held b) rest _ _ _ _ given c.in_ok-given.ensures.opened c.in_ok-given.ensures.same
    (body_fails (merging file held given) _ _ _ fault.Memory c.from_residual-in_err-bytes.ensures.1 (λ w is. inl is)))

pub returns-in_err-replace_one-clause-cause : goal.returns-in_err-replace_one-clause-cause
returns-in_err-replace_one-clause-cause g c =
    replace_failed _ _ _ _ _ c.in_err-replace_one.field-0.0 c.from_residual-in_err-replace_one.ensures.1 c.in_ok-graph.ensures.cause.later c.in_ok-given.ensures.cause.later
    c.in_err-replace_one.ensures.cause

pub returns-in_err-replace_one-clause-status : goal.returns-in_err-replace_one-clause-status
returns-in_err-replace_one-clause-status g c = fault_answers_nothing _ c.in_err-replace_one.field-0.0 _ c.from_residual-in_err-replace_one.ensures.1

pub returns-clause-status : goal.returns-clause-status
returns-clause-status g c =
    subst (λ (n : ℕ). Contains {X = ℕ} (0 ∷ 1 ∷ 3 ∷ []) n) (sym c.results_status-status.ensures) (status_among (list_any is_refused c.as_slice-3.result.now))

pub returns-in_err-replace_one-clause-body : goal.returns-in_err-replace_one-clause-body
returns-in_err-replace_one-clause-body g c = λ rest.
    let file = c.args.file.now in
    let bundle = c.args.bundle.now in
    let held : Held = c.in_ok-graph.graph in
    let given = c.in_ok-given.given in
    let new : Held = c.give_bundle.new.graph in
    let results = c.in_ok-results.results in
    goes_on FindsTeam file (λ h. opening FindsBytes bundle (λ b. merging file h b)) rest _ _ _ _ held c.in_ok-graph.ensures.opened c.in_ok-graph.ensures.same
    (goes_on FindsBytes bundle (λ b. merging file held b) rest _ _ _ _ given c.in_ok-given.ensures.opened c.in_ok-given.ensures.same
    (body_cut (merging file held given) _ _ _ c.in_err-replace_one.field-0.0 (results_status results) file (file_text new.team new.links) (results_text results)
    c.from_residual-in_err-replace_one.ensures.1
    (λ w is. (new, results, rw c.as_slice.ensures at c.in_ok-results.ensures.given, refl))
    (λ rest w is. rw (c.as_slice-4.ensures, c.in_ok-bytes.ensures) at (c.in_err-replace_one.ensures.cut rest w is)) rest))

pub returns-clause-body : goal.returns-clause-body
returns-clause-body g c = λ rest.
    let file = c.args.file.now in
    let bundle = c.args.bundle.now in
    let held : Held = c.in_ok-graph.graph in
    let given = c.in_ok-given.given in
    let new : Held = c.give_bundle.new.graph in
    let results = c.in_ok-results.results in
    goes_on FindsTeam file (λ h. opening FindsBytes bundle (λ b. merging file h b)) rest _ _ _ _ held c.in_ok-graph.ensures.opened c.in_ok-graph.ensures.same
    (goes_on FindsBytes bundle (λ b. merging file held b) rest _ _ _ _ given c.in_ok-given.ensures.opened c.in_ok-given.ensures.same
    (body_replaced (merging file held given) _ _ _ file (file_text new.team new.links)
    (λ w is. (new, results, rw c.as_slice.ensures at c.in_ok-results.ensures.given, rw (c.results_status-status.ensures, c.in_ok-text.ensures, c.as_slice-2.ensures, c.as_slice-3.ensures) refl))
    (λ rest w is. rw (c.as_slice-4.ensures, c.in_ok-bytes.ensures) at (c.in_ok-replace_one.ensures.done rest w is)) rest))
