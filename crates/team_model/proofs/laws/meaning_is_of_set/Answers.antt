use Rattle.team_model.proofs.OfOrder.{set_means_same}
use Rattle.team_model.proofs.laws.meaning_is_of_set.Goals as goal

pub returns : goal.returns
returns c rules links others differ apart same = set_means_same rules links others differ apart same
