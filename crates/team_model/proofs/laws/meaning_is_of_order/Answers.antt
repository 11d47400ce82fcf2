use Rattle.team_model.proofs.OfOrder.{mean_same}
use Rattle.team_model.proofs.laws.meaning_is_of_order.Goals as goal

pub returns : goal.returns
returns c rules links others differ apart orders = mean_same rules links others differ apart orders
