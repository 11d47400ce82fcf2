use Rattle.outcomes.specs.Seeing.{contents_of, counts_of}
use Rattle.outcomes.proofs.Printing.{runs_files_draws}
use Rattle.lms_keep.specs.KeyText.{IsKeyState}
use Rattle.key_commands.specs.Newkey.{drawn_key, newkeys}
use Rattle.key_commands.proofs.Left.{answered_zero, leaves_key}
use Rattle.key_commands.proofs.newkey.run_newkey.Goals as goal

pub returns-clause-runs : goal.returns-clause-runs
returns-clause-runs g c =
    let old = contents_of g.F.Files.files g.E.Entropy.left g.C.Clock.moment g.I.Source.left g.O.Sink.taken c.args.files.now c.args.entropy.now c.args.clock.now c.args.input.now c.args.out.now in
    rw (c.in-Newkey.is, ← c.as_str.ensures)
    (runs_files_draws (newkeys g.K.Sealer.public c.as_str.result.now c.in-Newkey.user) old _ _ _ c.answer_newkey.result c.conclude.result c.answer_newkey.ensures.body c.conclude.ensures.concluded)

pub returns-clause-cause : goal.returns-clause-cause
returns-clause-cause g c =
    let before = counts_of g.F.Files.faults g.E.Entropy.faults g.I.Source.faults g.O.Sink.faults c.args.files.now c.args.entropy.now c.args.input.now c.args.out.now in
    c.conclude.ensures.cause before (record before { files = g.F.Files.faults c.answer_newkey.new.files; draws = g.E.Entropy.faults c.answer_newkey.new.entropy }) (c.answer_newkey.ensures.cause before)

pub returns-clause-made : goal.returns-clause-made
returns-clause-made g c = λ ended w is.
    let old = contents_of g.F.Files.files g.E.Entropy.left g.C.Clock.moment g.I.Source.left g.O.Sink.taken c.args.files.now c.args.entropy.now c.args.clock.now c.args.input.now c.args.out.now in
    let range = answered_zero _ _ _ c.conclude.result (IsKeyState (drawn_key c.in-Newkey.user w)) c.conclude.ensures.concluded ended (c.answer_newkey.ensures.range old w is c.as_slice-name.ensures.name) in
    rw (c.in-Newkey.is, ← c.as_str.ensures)
    (leaves_key g.K.Sealer.public c.as_str.result.now c.in-Newkey.user old _ c.conclude.result w
    (runs_files_draws (newkeys g.K.Sealer.public c.as_str.result.now c.in-Newkey.user) old _ _ _ c.answer_newkey.result c.conclude.result c.answer_newkey.ensures.body c.conclude.ensures.concluded) ended is range)
