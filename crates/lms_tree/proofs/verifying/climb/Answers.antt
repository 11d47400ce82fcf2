use Rattle.std.proofs.Common.{◌∙◌, sym, arith}
use Rattle.lms_tree.proofs.Climbs.{climb_step, climb_end}
use Rattle.lms_tree.proofs.verifying.climb.Goals as goal

pub loop-i-preserved : goal.loop-i-preserved
loop-i-preserved c =
    rw (c.parent-node.ensures, c.array_at.ensures) (sym (climb_step c.args.id.now c.args.height c.loop-i.i c.loop-i.r c.loop-i.node c.args.path.now c.loop-i-test.true) ∙ c.loop-i.invariant)

pub returns : goal.returns
returns c =
    sym (climb_end c.args.id.now c.args.height c.loop-i.i c.loop-i.r c.loop-i.node c.args.path.now (omega arith)) ∙ c.loop-i.invariant
