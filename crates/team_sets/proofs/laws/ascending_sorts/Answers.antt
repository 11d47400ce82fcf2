use Rattle.team_sets.proofs.Sorted.{ascending-ascends, ascending-members, ascending-stays}
use Rattle.team_sets.proofs.laws.ascending_sorts.Goals as goal

pub returns : goal.returns
returns g c before strict xs = record {
  members = ascending-members before xs;
  ascends = ascending-ascends before strict xs;
  stays = ascending-stays before strict xs;
}
