use Rattle.std.proofs.Common.{◌∙◌, refl, sym}
use Rattle.link_graph.proofs.Marks.{mark_none, mark_some}
use Rattle.link_graph.proofs.below.mark_one.Goals as goal

pub returns-in_default-clause-marks : goal.returns-in_default-clause-marks
returns-in_default-clause-marks c =
    mark_none c.args.graph.now.links c.is_held.ensures.set c.args.name.now c.args.flags.now c.args.flags.now (sym c.position.ensures ∙ c.in_default.is) refl

pub returns-clause-marks : goal.returns-clause-marks
returns-clause-marks c =
    mark_some c.args.graph.now.links c.is_held.ensures.set c.args.name.now c.in-Some.position c.args.flags.now _ c.requires.size (sym c.position.ensures ∙ c.in-Some.is) refl
