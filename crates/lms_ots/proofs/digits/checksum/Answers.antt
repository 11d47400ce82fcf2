use Rattle.std.proofs.Common.{◌≡◌, ◌≤◌, ◌/◌, ◌∙◌, refl, arith}
use Rattle.lms_ots.specs.Digits.{sum_below}
use Rattle.lms_ots.proofs.Widths.{digit_is_small, sum_more, steps_small, checksum_is}
use Rattle.lms_ots.proofs.digits.checksum.Goals as goal

pub loop-i-init : goal.loop-i-init
unfolding sum_below
loop-i-init c = record { summed = refl; small = omega arith }

pub overflow_sub-sum : goal.overflow_sub-sum
overflow_sub-sum c =
    digit_is_small c.args.kind c.args.q.now c.loop-i.i _ _ _ c.steps.ensures (c.from.ensures ∙ c.coef.ensures) c.w-w.ensures

pub loop-i-preserved : goal.loop-i-preserved
loop-i-preserved c = record {
  summed = sum_more c.args.kind c.args.q.now c.loop-i.i _ _ _ _ c.steps.ensures (c.from.ensures ∙ c.coef.ensures) c.w-w.ensures c.loop-i.invariant.summed;
  small = let few : c.steps.result ≤ 255 = steps_small c.args.kind _ c.steps.ensures in omega arith;
}

pub returns : goal.returns
returns c =
    let all : c.loop-i.i ≡ 256 / c.w-w.result = omega arith in
    checksum_is c.args.kind c.args.q.now c.loop-i.i _ _ _ c.w-w.ensures c.ls.ensures all c.loop-i.invariant.summed
