use Rattle.team_sets.proofs.Inserts.{insertion_turn}
use Rattle.team_sets.proofs.laws.insertion_in_turn.Goals as goal

pub returns : goal.returns
returns g c name prev = insertion_turn name prev
