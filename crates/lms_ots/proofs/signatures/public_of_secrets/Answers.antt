use Rattle.std.proofs.Common.{◌≡◌, ◌∙◌, ◌-◌, ◌++◌, sym, ap, arith}
use Rattle.sha2.specs.Sha256.{sha256}
use Rattle.lms_ots.specs.Ots.{ots_key}
use Rattle.lms_ots.proofs.Pieces.{tops_step, tops_end}
use Rattle.lms_ots.proofs.signatures.public_of_secrets.Goals as goal

pub loop-i-preserved : goal.loop-i-preserved
loop-i-preserved c =
    let before = c.loop-i.invariant in
    let all : c.steps.result - 0 ≡ c.steps.result = omega arith in
    let step = tops_step c.args.kind c.args.id.now c.args.q c.loop-i.i c.args.secrets.now before.0 c.loop-i-test.true in
    (before.0 ++ c.chain.result, c.update-in-loop-i.ensures before.0 before.1, rw (c.chain.ensures, all, c.steps.ensures) (sym step ∙ before.2))

pub returns : goal.returns
unfolding ots_key
returns c =
    let before = c.loop-i.invariant in
    c.finalize.ensures before.0 before.1
    ∙ ap sha256 (sym (tops_end c.args.kind c.args.id.now c.args.q c.loop-i.i c.args.secrets.now before.0 (omega arith)) ∙ before.2)
