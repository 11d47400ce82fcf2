use Rattle.team_model.proofs.OfOrder.{waiting_mean_same}
use Rattle.team_model.proofs.laws.waiting_have_no_effect.Goals as goal

pub returns : goal.returns
returns c rules links differ = waiting_mean_same rules links differ
