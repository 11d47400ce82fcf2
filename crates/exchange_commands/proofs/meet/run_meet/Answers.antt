use Rattle.outcomes.specs.Seeing.{contents_of, counts_of}
use Rattle.outcomes.proofs.Printing.{runs_files, faulted_files}
use Rattle.exchange_commands.specs.Meet.{meets}
use Rattle.exchange_commands.proofs.meet.run_meet.Goals as goal

pub returns-clause-runs : goal.returns-clause-runs
returns-clause-runs g c =
    let old = contents_of g.F.Files.files g.E.Entropy.left g.C.Clock.moment g.I.Source.left g.O.Sink.taken c.args.files.now c.args.entropy.now c.args.clock.now c.args.input.now c.args.out.now in
    rw (c.in-Meet.is, ← c.as_str.ensures, ← c.as_str-in-Meet.ensures)
    (runs_files (meets c.as_str.result.now c.as_str-in-Meet.result.now) old _ _ c.answer_meet.result c.conclude.result c.answer_meet.ensures.body c.conclude.ensures.concluded)

pub returns-clause-cause : goal.returns-clause-cause
returns-clause-cause g c =
    let before = counts_of g.F.Files.faults g.E.Entropy.faults g.I.Source.faults g.O.Sink.faults c.args.files.now c.args.entropy.now c.args.input.now c.args.out.now in
    c.conclude.ensures.cause before (record before { files = g.F.Files.faults c.answer_meet.new.files })
    (faulted_files _ _ before _ c.answer_meet.ensures.cause.later c.answer_meet.ensures.cause.failed)
