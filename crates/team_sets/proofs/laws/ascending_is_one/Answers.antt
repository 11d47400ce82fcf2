use Rattle.team_sets.proofs.Sorted.{ascending-one}
use Rattle.team_sets.proofs.laws.ascending_is_one.Goals as goal

pub returns : goal.returns
returns g c before strict xs ys up over same = ascending-one before strict xs ys up over same.forth same.back
