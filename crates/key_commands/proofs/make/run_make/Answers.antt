use Rattle.outcomes.specs.Seeing.{contents_of, counts_of}
use Rattle.outcomes.proofs.Printing.{runs_concluded}
use Rattle.std.proofs.Common.{ℕ, ◌<◌, ◌^◌, subst}
use Rattle.lms_keep.specs.KeyText.{IsKeyState}
use Rattle.key_commands.specs.Make.{makes}
use Rattle.key_commands.specs.Newkey.{drawn_key}
use Rattle.key_commands.proofs.Foundings.{at_moment}
use Rattle.key_commands.proofs.Left.{answered_zero, leaves_team}
use Rattle.key_commands.proofs.make.run_make.Goals as goal

pub returns-clause-runs : goal.returns-clause-runs
returns-clause-runs g c =
    let old = contents_of g.F.Files.files g.E.Entropy.left g.C.Clock.moment g.I.Source.left g.O.Sink.taken c.args.files.now c.args.entropy.now c.args.clock.now c.args.input.now c.args.out.now in
    rw (c.in-Make.is, c.now.ensures.stays, ← c.as_str.ensures, ← c.as_str-in-Make.ensures)
    (runs_concluded (makes g.K.Sealer.public c.as_str.result.now c.as_str-in-Make.result.now c.in-Make.user c.in-Make.title) old
    (record old { files = g.F.Files.files c.answer_make.new.files; draws = g.E.Entropy.left c.answer_make.new.entropy }) _ _ c.answer_make.result c.conclude.result c.conclude.ensures.concluded
    (c.answer_make.ensures.body old c.now.ensures.told))

pub returns-clause-cause : goal.returns-clause-cause
returns-clause-cause g c =
    let before = counts_of g.F.Files.faults g.E.Entropy.faults g.I.Source.faults g.O.Sink.faults c.args.files.now c.args.entropy.now c.args.input.now c.args.out.now in
    c.conclude.ensures.cause before (record before { files = g.F.Files.faults c.answer_make.new.files; draws = g.E.Entropy.faults c.answer_make.new.entropy }) (c.answer_make.ensures.cause before)

pub returns-clause-made : goal.returns-clause-made
returns-clause-made g c = λ ended w is.
    let old = contents_of g.F.Files.files g.E.Entropy.left g.C.Clock.moment g.I.Source.left g.O.Sink.taken c.args.files.now c.args.entropy.now c.args.clock.now c.args.input.now c.args.out.now in
    let range = answered_zero _ _ _ c.conclude.result (IsKeyState (drawn_key c.in-Make.user w)) c.conclude.ensures.concluded ended (c.answer_make.ensures.range old w is) in
    let fits = subst (λ (t : ℕ). t < 2 ^ 64) (at_moment c.now.result _ w.moment c.now.ensures.told is.moment) c.now.ensures.fits in
    rw (c.in-Make.is, ← c.as_str.ensures)
    (leaves_team g.K.Sealer.public c.as_str.result.now c.as_str-in-Make.result.now c.in-Make.user c.in-Make.title old _ c.conclude.result w
    (runs_concluded (makes g.K.Sealer.public c.as_str.result.now c.as_str-in-Make.result.now c.in-Make.user c.in-Make.title) old
    (record old { files = g.F.Files.files c.answer_make.new.files; draws = g.E.Entropy.left c.answer_make.new.entropy }) _ _ c.answer_make.result c.conclude.result c.conclude.ensures.concluded
    (c.answer_make.ensures.body old c.now.ensures.told)) ended is range c.as_slice-title.ensures.title fits g.met.K.Sealer.publics)
