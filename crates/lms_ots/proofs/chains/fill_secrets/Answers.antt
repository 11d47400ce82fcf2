use Rattle.std.proofs.Common.{◌∙◌, sym, arith}
use Rattle.lms_ots.specs.Kinds.{ots_row}
use Rattle.lms_ots.proofs.Pieces.{secrets_step, secrets_end}
use Rattle.lms_ots.proofs.chains.fill_secrets.Goals as goal

pub loop-i-preserved : goal.loop-i-preserved
loop-i-preserved c =
    rw (c.ots_secret.ensures) (secrets_step c.args.id.now c.args.q c.args.seed.now (ots_row c.args.kind).p c.loop-i.i c.loop-i.secrets (omega arith) (omega arith) ∙ c.loop-i.invariant)

pub returns : goal.returns
returns c =
    sym (secrets_end c.args.id.now c.args.q c.args.seed.now (ots_row c.args.kind).p c.loop-i.i c.loop-i.secrets (omega arith) (omega arith)) ∙ c.loop-i.invariant
