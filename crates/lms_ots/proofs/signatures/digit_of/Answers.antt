use Rattle.std.proofs.Common.{◌∙◌, refl}
use Rattle.lms_ots.proofs.Widths.{digit_is_small}
use Rattle.lms_ots.proofs.signatures.digit_of.Goals as goal

pub returns-clause-within : goal.returns-clause-within
returns-clause-within c = digit_is_small c.args.kind c.args.digits.now c.args.i _ _ _ refl (c.from.ensures ∙ c.coef.ensures) c.w.ensures
