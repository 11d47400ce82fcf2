use Rattle.std.proofs.Common.{refl}
use Rattle.lms_ots.specs.Digits.{coef, checksum, sum_below}
use Rattle.lms_ots.proofs.rows.worked_values.Goals as goal

pub returns-clause-digits : goal.returns-clause-digits
unfolding coef
returns-clause-digits c = (refl, refl)

pub returns-clause-checksums : goal.returns-clause-checksums
unfolding coef checksum sum_below
returns-clause-checksums c = refl
