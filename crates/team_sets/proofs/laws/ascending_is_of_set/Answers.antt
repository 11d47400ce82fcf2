use Rattle.team_sets.proofs.Sorted.{ascending-of_set}
use Rattle.team_sets.proofs.laws.ascending_is_of_set.Goals as goal

pub returns : goal.returns
returns g c before strict xs ys apart other same = ascending-of_set before strict xs ys apart other same
