use Rattle.std.proofs.Common.{◌≡◌, ◌-◌, ◌*◌, ◌^◌, ◌≤◌}
use Rattle.lms_ots.specs.Kinds.{ots_row}
use Rattle.lms_ots.specs.Digits.{coef, sum_below}
use Rattle.lms_ots.proofs.digits.checksum.Given as goal

abbrev pub invariant-loop-i : goal.invariant-loop-i
invariant-loop-i l = record {
  summed : l.sum ≡ sum_below (λ i. 2 ^ (ots_row l.kind).w - 1 - coef l.q i (ots_row l.kind).w) l.i;
  small : l.sum ≤ 255 * l.i;
}
