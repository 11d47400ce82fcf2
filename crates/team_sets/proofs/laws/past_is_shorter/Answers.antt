use Rattle.team_sets.proofs.Pasts.{past-shorter}
use Rattle.team_sets.proofs.laws.past_is_shorter.Goals as goal

pub returns : goal.returns
returns g c name prev links differ x k = past-shorter name prev links differ x k
