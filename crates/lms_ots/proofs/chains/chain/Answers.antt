use Rattle.std.proofs.Common.{◌≡◌, ◌-◌, ◌∙◌, sym, arith}
use Rattle.lms_ots.proofs.Steps.{chain_step, chain_none}
use Rattle.lms_ots.proofs.chains.chain.Goals as goal

pub loop-j-preserved : goal.loop-j-preserved
loop-j-preserved c =
    rw (c.hash_step-value.ensures, c.front_of-front.ensures) (sym (chain_step c.args.id.now c.args.q c.args.i c.args.to c.loop-j.j c.loop-j.value c.loop-j-test.true) ∙ c.loop-j.invariant)

pub returns : goal.returns
returns c =
    let none : c.args.to - c.loop-j.j ≡ 0 = omega arith in
    sym (chain_none c.args.id.now c.args.q c.args.i c.loop-j.j c.loop-j.value) ∙ rw none at c.loop-j.invariant
