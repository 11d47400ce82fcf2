use Rattle.std.proofs.Common.{◌≡◌, ◌-◌, ◌*◌, drop}
use Rattle.lms_ots.specs.Ots.{pieces}
use Rattle.lms_tree.specs.Verifying.{climb}
use Rattle.lms_tree.proofs.verifying.climb.Given as goal

abbrev pub invariant-loop-i : goal.invariant-loop-i
invariant-loop-i l =
    climb l.id l.r l.node (pieces (l.height - l.i) (drop (32 * l.i) l.path)) ≡ climb l.id l.leaf l.hash (pieces l.height l.path)
