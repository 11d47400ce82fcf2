use Rattle.std.proofs.Common.{refl}
use Rattle.tg_text.specs.Spelling.{number_at}
use Rattle.team_model.specs.KeyLines.{lined, with_lines}
use Rattle.team_model.proofs.laws.worked_admissions.Goals as goal

pub returns-clause-refusals : goal.returns-clause-refusals
unfolding lined with_lines number_at
returns-clause-refusals c = (refl, refl, refl, refl)

pub returns-clause-effect : goal.returns-clause-effect
unfolding lined with_lines number_at
returns-clause-effect c = (refl, refl, refl, refl, refl, refl)

pub returns-clause-devices : goal.returns-clause-devices
unfolding lined with_lines number_at
returns-clause-devices c = (refl, refl, refl)
