use Rattle.std.proofs.Common.{◌≡◌, ◌-◌, ◌+◌, arith}
use Rattle.std.proofs.lemmas.List.{length-set}
use Rattle.lms_tree.proofs.Filled.{inner_step}
use Rattle.lms_tree.proofs.nodes.fill_inner.Goals as goal

pub loop-r-preserved : goal.loop-r-preserved
loop-r-preserved c =
    let before = c.loop-r.invariant in
    let r = c.loop-r.r - 1 in
    let e : r + 1 ≡ c.loop-r.r = omega arith in
    record {
      one = omega arith;
      low = omega arith;
      size = rw length-set before.size;
      holds = inner_step c.args.key.now r c.loop-r.nodes c.inner_hash.result (omega arith) (omega arith) before.size (rw e before.holds) c.inner_hash.ensures;
    }
