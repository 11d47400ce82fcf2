use Rattle.lms_ots.proofs.Widths.{coef_masked}
use Rattle.lms_ots.proofs.digits.coef.Goals as goal

pub returns : goal.returns
returns c = coef_masked c.args.s.now c.args.i c.args.w c.requires.width
