use Rattle.std.proofs.Common.{◌≡◌, ◌≢◌, ℕ, Contains, Global, None, Some, arith, codes, map, refl, string_bytes, subst}
use Rattle.std.proofs.lemmas.List.Elements.{All-contains}
use Rattle.std.proofs.lemmas.Option.{IfSome_then}
use Rattle.lockboxes.specs.Keeping.{Keeper}
use Rattle.outcomes.specs.Ending.{answer_of}
use Rattle.outcomes.specs.Seeing.{contents_of, counts_of}
use Rattle.outcomes.specs.Steps.{World, Outcome, saying}
use Rattle.outcomes.proofs.Printing.{body_says, faulted_none, runs_concluded}
use Rattle.team_words.specs.declared.command.Command.{Command}
use Rattle.team_run.specs.Running.{statuses_of}
use Rattle.team_run.specs.Serving.{IsComplete}
use Rattle.team_run.proofs.Runs.{not_none, runs_words, same_command}
use Rattle.team_run.proofs.Served.{complete, complete_short}
use Rattle.team_run.proofs.Statuses.{ends_with_two, never_two}
use Rattle.team_run.proofs.running.run.Goals as goal

pub returns-in-Ok-Some-clause-usage : goal.returns-in-Ok-Some-clause-usage
returns-in-Ok-Some-clause-usage g c = λ none lt.
    let is = rw c.in-Ok-Some.field-0-is at c.in-Ok-Some.ensures in
    absurd (not_none _ c.in-Ok-Some.command is none)

pub returns-in-Ok-Some-clause-only_usage : goal.returns-in-Ok-Some-clause-only_usage
returns-in-Ok-Some-clause-only_usage g c = λ two.
    absurd (All-contains (λ (n : ℕ). n ≢ 2) (statuses_of c.in-Ok-Some.command) c.run_command.result (never_two c.in-Ok-Some.command) (c.run_command.ensures.status (omega (arith, two))) two)

pub returns-in-Ok-Some-clause-statuses : goal.returns-in-Ok-Some-clause-statuses
returns-in-Ok-Some-clause-statuses g c = λ other more low.
    let is = rw c.in-Ok-Some.field-0-is at c.in-Ok-Some.ensures in
    subst (λ (x : Command). Contains (statuses_of x) c.run_command.result) (same_command _ c.in-Ok-Some.command is other more) (c.run_command.ensures.status low)

pub returns-in-Ok-Some-clause-runs : goal.returns-in-Ok-Some-clause-runs
returns-in-Ok-Some-clause-runs g c =
    let keeper : Keeper = record { public_of = g.K.Sealer.public; unseal = g.K.Sealer.opened } in
    let is = rw c.in-Ok-Some.field-0-is at c.in-Ok-Some.ensures in
    let new = c.run_command.new in
    let old = contents_of g.F.Files.files g.E.Entropy.left g.C.Clock.moment g.I.Source.left g.O.Sink.taken c.args.files.now c.args.entropy.now c.args.clock.now c.args.input.now c.args.out.now in
    let left = contents_of g.F.Files.files g.E.Entropy.left g.C.Clock.moment g.I.Source.left g.O.Sink.taken new.files new.entropy new.clock new.input new.out in
    runs_words keeper (map (string_bytes {Z = Global}) c.args.words.now) (Some c.in-Ok-Some.command) is old left c.run_command.result c.run_command.ensures.runs

pub returns-in-Ok-None-clause-runs : goal.returns-in-Ok-None-clause-runs
returns-in-Ok-None-clause-runs g c =
    let keeper : Keeper = record { public_of = g.K.Sealer.public; unseal = g.K.Sealer.opened } in
    let is = rw c.in-Ok-None.field-0-is at c.in-Ok-None.ensures in
    let does = λ (w : World) (o : Outcome). o ≡ saying 2 (codes "usage\n") in
    let old = contents_of g.F.Files.files g.E.Entropy.left g.C.Clock.moment g.I.Source.left g.O.Sink.taken c.args.files.now c.args.entropy.now c.args.clock.now c.args.input.now c.args.out.now in
    let left = record old { taken = g.O.Sink.taken c.conclude.new.out } in
    runs_words keeper (map (string_bytes {Z = Global}) c.args.words.now) None is old left c.conclude.result
    (runs_concluded does old old _ _ c.usage.result c.conclude.result c.conclude.ensures.concluded
    (body_says does old old c.usage.result (λ w is. is) (λ w is. IfSome_then (answer_of c.usage.result) c.usage.ensures.said (λ a h. rw (h.0, h.1) refl))))

pub returns-in-Ok-None-clause-cause : goal.returns-in-Ok-None-clause-cause
returns-in-Ok-None-clause-cause g c =
    let before = counts_of g.F.Files.faults g.E.Entropy.faults g.I.Source.faults g.O.Sink.faults c.args.files.now c.args.entropy.now c.args.input.now c.args.out.now in
    c.conclude.ensures.cause before before (faulted_none before _ c.usage.ensures.never)

pub returns-in-Ok-None-clause-usage : goal.returns-in-Ok-None-clause-usage
returns-in-Ok-None-clause-usage g c = λ none lt. ends_with_two _ _ (answer_of c.usage.result) c.conclude.result c.conclude.ensures.concluded c.usage.ensures.said lt

pub returns-in-Ok-None-clause-only_usage : goal.returns-in-Ok-None-clause-only_usage
returns-in-Ok-None-clause-only_usage g c = λ two. rw c.in-Ok-None.field-0-is at c.in-Ok-None.ensures

pub returns-in-Ok-None-clause-statuses : goal.returns-in-Ok-None-clause-statuses
returns-in-Ok-None-clause-statuses g c = λ command is. absurd (not_none _ command is (rw c.in-Ok-None.field-0-is at c.in-Ok-None.ensures))

pub returns-in-Ok-None-clause-complete : goal.returns-in-Ok-None-clause-complete
returns-in-Ok-None-clause-complete g c = λ command is. absurd (not_none _ command is (rw c.in-Ok-None.field-0-is at c.in-Ok-None.ensures))

pub returns-in-Ok-Some-clause-complete : goal.returns-in-Ok-Some-clause-complete
returns-in-Ok-Some-clause-complete g c = λ other more.
    let keeper : Keeper = record { public_of = g.K.Sealer.public; unseal = g.K.Sealer.opened } in
    let is = rw c.in-Ok-Some.field-0-is at c.in-Ok-Some.ensures in
    let command = c.in-Ok-Some.command in
    let new = c.run_command.new in
    let old = contents_of g.F.Files.files g.E.Entropy.left g.C.Clock.moment g.I.Source.left g.O.Sink.taken c.args.files.now c.args.entropy.now c.args.clock.now c.args.input.now c.args.out.now in
    let left = contents_of g.F.Files.files g.E.Entropy.left g.C.Clock.moment g.I.Source.left g.O.Sink.taken new.files new.entropy new.clock new.input new.out in
    let before = counts_of g.F.Files.faults g.E.Entropy.faults g.I.Source.faults g.O.Sink.faults c.args.files.now c.args.entropy.now c.args.input.now c.args.out.now in
    let now = counts_of g.F.Files.faults g.E.Entropy.faults g.I.Source.faults g.O.Sink.faults new.files new.entropy new.input new.out in
    subst (λ (x : Command). IsComplete x old before now c.run_command.result) (same_command _ command is other more)
    (complete keeper command old left before now c.run_command.result c.run_command.ensures.runs c.run_command.ensures.cause)

pub returns-in-Err-clause-complete : goal.returns-in-Err-clause-complete
returns-in-Err-clause-complete g c = λ command is. complete_short command _ _ _
