use Rattle.team_sets.proofs.Stays.{past-stays}
use Rattle.team_sets.proofs.laws.past_stays.Goals as goal

pub returns : goal.returns
returns g c name prev links z differ fresh x k = past-stays name prev links z differ fresh x k
