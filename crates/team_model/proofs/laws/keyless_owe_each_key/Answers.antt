use Rattle.team_model.proofs.Keyless.{keyless}
use Rattle.team_model.proofs.laws.keyless_owe_each_key.Goals as goal

pub returns : goal.returns
returns c s no_currents no_boxes = keyless s no_currents no_boxes
