use Rattle.std.proofs.Common.{◌≡◌, ◌+◌, ◌-◌, ◌*◌, ◌∙◌, [], length, get_or, sym, arith}
use Rattle.lms_ots.specs.Kinds.{ots_row}
use Rattle.lms_ots.specs.Digits.{coef}
use Rattle.lms_ots.specs.Chains.{chain}
use Rattle.lms_ots.proofs.Steps.{length-chain}
use Rattle.lms_ots.proofs.Pieces.{starts_step, starts_end}
use Rattle.lms_ots.proofs.signatures.write_starts.Goals as goal

pub loop-i-preserved : goal.loop-i-preserved
loop-i-preserved c =
    let i = c.loop-i.i in
    let digit : c.digit_of-digit.result - 0 ≡ c.digit_of-digit.result = omega arith in
    let is : c.copy_from_slice.new.self ≡ chain c.args.id.now c.args.q i 0 (coef c.args.digits.now i (ots_row c.args.kind).w) (get_or c.args.secrets.now i []) =
    c.copy_from_slice.ensures.after ∙ rw (digit, c.digit_of-digit.ensures.value) at c.chain-start.ensures in
    let size : length c.copy_from_slice.new.self ≡ 32 = rw is (length-chain c.args.id.now c.args.q i 0 _ _ (c.told-secrets i c.loop-i-test.true)) in
    let width : 32 * i + 32 - 32 * i ≡ 32 = omega arith in
    rw width (starts_step c.args.kind c.args.id.now c.args.q c.args.digits.now c.args.secrets.now i c.loop-i.out c.copy_from_slice.new.self c.loop-i-test.true (omega arith) size is ∙ c.loop-i.invariant)

pub returns : goal.returns
returns c =
    sym (starts_end c.args.kind c.args.id.now c.args.q c.args.digits.now c.args.secrets.now c.loop-i.i c.loop-i.out (omega arith) (omega arith) (omega arith)) ∙ c.loop-i.invariant
