use Rattle.team_sets.proofs.Inserts.{insertion_order}
use Rattle.team_sets.proofs.laws.insertion_is_order.Goals as goal

pub returns : goal.returns
returns g c name prev = insertion_order name prev
