use Rattle.team_model.proofs.Counting.{standers_apart}
use Rattle.team_model.proofs.laws.standers_are_apart.Goals as goal

pub returns : goal.returns
returns c rules links differ s t k j = standers_apart rules links differ s t k j
