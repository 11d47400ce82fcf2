use Rattle.std.proofs.Common.{refl}
use Rattle.std.specs.List.{AllByRecursion}
use Rattle.team_model.specs.ActRows.{crew, still_acts}
use Rattle.team_model.specs.KeyLines.{lined, with_lines}
use Rattle.team_model.proofs.Quiet.{IsQuiet, all-stay}
use Rattle.team_model.proofs.laws.worked_devices.Goals as goal

still : AllByRecursion (IsQuiet (λ key. key)) still_acts
still = (record { effect = λ s. refl; no_news = refl; no_boxes = refl }, (record { effect = λ s. refl; no_news = refl; no_boxes = refl }, (record { effect = λ s. refl; no_news = refl; no_boxes = refl }, tt)))

pub returns-clause-rotations : goal.returns-clause-rotations
unfolding lined with_lines
returns-clause-rotations c = (refl, refl, refl, all-stay (λ key. key) still_acts crew still)

pub returns-clause-titles : goal.returns-clause-titles
unfolding lined with_lines
returns-clause-titles c = (refl, refl)
