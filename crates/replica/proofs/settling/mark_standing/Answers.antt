use Rattle.std.proofs.Common.{◌∙◌, length, refl, arith}
use Rattle.std.proofs.lemmas.Option.{slice_get_read}
use Rattle.replica.proofs.Settles.{marks_all, marks_more}
use Rattle.replica.proofs.settling.mark_standing.Goals as goal

pub loop-place-preserved : goal.loop-place-preserved
loop-place-preserved c = record {
  size = c.mark_act.ensures.size ∙ c.loop-place.invariant.size;
  marks = marks_more c.args.graph.now.links c.args.acts.now c.args.decisions.now c.loop-place.place c.index-acts-place.result c.stands_at-stands.result c.args.flags.now c.loop-place.flags
      c.mark_act.new.flags
      (slice_get_read c.args.acts.now (length c.args.acts.now) c.loop-place.place c.index-acts-place.result refl c.loop-place-test.true c.index-acts-place.is)
      (omega (arith, c.requires.each)) c.stands_at-stands.ensures c.loop-place.invariant.marks c.mark_act.ensures.marks;
}

pub returns-clause-marks : goal.returns-clause-marks
returns-clause-marks c =
    marks_all c.args.graph.now.links c.args.acts.now c.args.decisions.now c.loop-place.place c.args.flags.now c.loop-place.flags (omega arith) (omega (arith, c.requires.each)) c.loop-place.invariant.marks
