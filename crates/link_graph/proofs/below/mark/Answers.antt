use Rattle.std.proofs.Common.{◌||◌, ◌∙◌, ap, false, get_or, length, refl, arith}
use Rattle.std.proofs.lemmas.List.{take_all}
use Rattle.std.proofs.lemmas.Option.{slice_get_read}
use Rattle.team_sets.specs.Names.{has_name}
use Rattle.link_graph.proofs.Marks.{mark_next}
use Rattle.link_graph.proofs.below.mark.Goals as goal

pub loop-name-preserved : goal.loop-name-preserved
loop-name-preserved c = record {
  size = c.mark_one.ensures.size ∙ c.loop-name.invariant.size;
  marks = mark_next c.args.graph.now.links c.args.names.now c.loop-name.name-index c.name-item.result c.args.flags.now c.loop-name.flags c.mark_one.new.flags
      (slice_get_read c.args.names.now (length c.args.names.now) c.loop-name.name-index c.name-item.result refl c.loop-name-test.true c.name-item.is)
      c.loop-name.invariant.marks c.mark_one.ensures.marks;
}

pub returns-clause-marks : goal.returns-clause-marks
returns-clause-marks c = λ i x at.
    c.loop-name.invariant.marks i x at
    ∙ ap (λ l. get_or c.args.flags.now i false || has_name l x.name) (take_all c.loop-name.name-index c.args.names.now (omega arith))
