use Rattle.std.proofs.Common.{◌≡◌, ◌*◌, ◌≤◌, length}
use Rattle.lms_tree.specs.LmsKinds.{leaves_of}
use Rattle.lms_tree.specs.Nodes.{HoldsFrom}
use Rattle.lms_tree.proofs.nodes.fill_inner.Given as goal

abbrev pub invariant-loop-r : goal.invariant-loop-r
invariant-loop-r l = record {
  one : 1 ≤ l.r;
  low : l.r ≤ leaves_of l.key.lms;
  size : length l.nodes ≡ 2 * leaves_of l.key.lms;
  holds : HoldsFrom l.key l.r l.nodes;
}

abbrev pub decreases-loop-r : goal.decreases-loop-r
decreases-loop-r l = l.r
