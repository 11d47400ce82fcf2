use Rattle.lockboxes.specs.Keeping.{Keeper}
use Rattle.outcomes.specs.Seeing.{contents_of, counts_of}
use Rattle.outcomes.proofs.Printing.{runs_files, faulted_files}
use Rattle.report_commands.specs.Keys.{lists_keys}
use Rattle.report_commands.proofs.keys.run_keys.Goals as goal

pub returns-clause-runs : goal.returns-clause-runs
returns-clause-runs g c =
    let keeper : Keeper = record { public_of = g.K.Sealer.public; unseal = g.K.Sealer.opened } in
    let old = contents_of g.F.Files.files g.E.Entropy.left g.C.Clock.moment g.I.Source.left g.O.Sink.taken c.args.files.now c.args.entropy.now c.args.clock.now c.args.input.now c.args.out.now in
    rw (c.in-Keys.is, ← c.as_str.ensures, ← c.as_str-in-Keys.ensures)
    (runs_files (lists_keys keeper c.as_str.result.now c.as_str-in-Keys.result.now) old _ _ c.answer_keys.result c.conclude.result c.answer_keys.ensures.body c.conclude.ensures.concluded)

pub returns-clause-cause : goal.returns-clause-cause
returns-clause-cause g c =
    let before = counts_of g.F.Files.faults g.E.Entropy.faults g.I.Source.faults g.O.Sink.faults c.args.files.now c.args.entropy.now c.args.input.now c.args.out.now in
    c.conclude.ensures.cause before (record before { files = g.F.Files.faults c.answer_keys.new.files })
    (faulted_files _ _ before _ c.answer_keys.ensures.cause.later c.answer_keys.ensures.cause.failed)
