use Rattle.outcomes.specs.Seeing.{contents_of, counts_of}
use Rattle.outcomes.proofs.Printing.{faulted_files, runs_concluded}
use Rattle.author_commands.specs.Plain.{plains}
use Rattle.author_commands.proofs.plain.run_plain.Goals as goal

pub returns-clause-runs : goal.returns-clause-runs
returns-clause-runs g c =
    let old = contents_of g.F.Files.files g.E.Entropy.left g.C.Clock.moment g.I.Source.left g.O.Sink.taken c.args.files.now c.args.entropy.now c.args.clock.now c.args.input.now c.args.out.now in
    rw (c.in-Plain.is, c.now-time.ensures.stays, ← c.as_str.ensures, ← c.as_str-in-Plain.ensures)
    (runs_concluded (plains c.as_str.result.now c.as_str-in-Plain.result.now c.in-Plain.act) old
    (record old { files = g.F.Files.files c.answer_plain.new.files }) _ _ c.answer_plain.result c.conclude.result c.conclude.ensures.concluded
    (c.answer_plain.ensures.body old c.now-time.ensures.told))

pub returns-clause-cause : goal.returns-clause-cause
returns-clause-cause g c =
    let before = counts_of g.F.Files.faults g.E.Entropy.faults g.I.Source.faults g.O.Sink.faults c.args.files.now c.args.entropy.now c.args.input.now c.args.out.now in
    c.conclude.ensures.cause before (record before { files = g.F.Files.faults c.answer_plain.new.files })
    (faulted_files _ _ before _ c.answer_plain.ensures.cause.later c.answer_plain.ensures.cause.failed)
