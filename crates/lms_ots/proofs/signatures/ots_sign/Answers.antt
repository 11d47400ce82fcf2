use Rattle.std.proofs.Common.{◌<◌, ◌^◌, refl, arith}
use Rattle.lms_ots.specs.Kinds.{ots_row}
use Rattle.lms_ots.specs.declared.kind.OtsKind.{OtsKind}
use Rattle.lms_ots.specs.declared.kind.OtsKind.TheVariants.{W1, W2, W4, W8}
use Rattle.lms_ots.specs.Ots.{ots_signature}
use Rattle.lms_ots.proofs.Signed.{key_of_signature, form_of_signature, all_sized}
use Rattle.lms_ots.proofs.signatures.ots_sign.Goals as goal

pub returns-clause-bytes : goal.returns-clause-bytes
unfolding ots_signature
returns-clause-bytes c = rw (c.write_head.ensures, c.write_starts.ensures, c.message_digits-digits.ensures) refl

pub returns-clause-leads : goal.returns-clause-leads
returns-clause-leads c =
    rw (returns-clause-bytes c) (key_of_signature c.args.kind c.args.id.now c.args.q c.args.secrets.now c.args.c.now c.args.message.now c.requires.secrets c.told-c (all_sized c.args.secrets.now c.told-secrets))

small : (kind : OtsKind) → (ots_row kind).number < 2 ^ 32
small W1 = omega arith
small W2 = omega arith
small W4 = omega arith
small W8 = omega arith

pub returns-clause-form : goal.returns-clause-form
returns-clause-form c =
    rw (returns-clause-bytes c) (rw (form_of_signature c.args.kind c.args.id.now c.args.q c.args.secrets.now c.args.c.now c.args.message.now c.requires.secrets c.told-c (all_sized c.args.secrets.now c.told-secrets) (small c.args.kind)) refl)
