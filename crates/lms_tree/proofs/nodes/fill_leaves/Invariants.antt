use Rattle.std.proofs.Common.{◌+◌}
use Rattle.lms_tree.specs.LmsKinds.{leaves_of}
use Rattle.lms_tree.proofs.Filled.{HoldsLeaves}
use Rattle.lms_tree.proofs.nodes.fill_leaves.Given as goal

abbrev pub invariant-loop-q : goal.invariant-loop-q
invariant-loop-q l = HoldsLeaves l.key (leaves_of l.key.lms + l.q) l.nodes
