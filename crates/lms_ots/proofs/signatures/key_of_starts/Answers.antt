use Rattle.std.proofs.Common.{◌∙◌, ◌++◌, sym, ap, arith}
use Rattle.sha2.specs.Sha256.{sha256}
use Rattle.lms_ots.specs.Kinds.{ots_row}
use Rattle.lms_ots.proofs.Pieces.{ends_step, ends_end}
use Rattle.lms_ots.proofs.signatures.key_of_starts.Goals as goal

pub loop-i-preserved : goal.loop-i-preserved
loop-i-preserved c =
    let before = c.loop-i.invariant in
    let step = ends_step c.args.kind c.args.id.now c.args.q c.args.digits.now c.args.ys.now (ots_row c.args.kind).p c.loop-i.i before.0 (omega (arith, c.p-i-end.ensures)) in
    (before.0 ++ c.chain.result, c.update-in-loop-i.ensures before.0 before.1, rw (c.chain.ensures, c.digit_of.ensures.value, c.steps.ensures, c.array_at-start.ensures) (sym step ∙ before.2))

pub returns : goal.returns
returns c =
    let before = c.loop-i.invariant in
    c.finalize.ensures before.0 before.1
    ∙ ap sha256 (sym (ends_end c.args.kind c.args.id.now c.args.q c.args.digits.now c.args.ys.now (ots_row c.args.kind).p c.loop-i.i before.0 (omega (arith, c.p-i-end.ensures))) ∙ before.2)
