use Rattle.team_sets.proofs.SameSet.{before-same, height-same, past-same, set-length}
use Rattle.team_sets.proofs.laws.graph_is_of_set.Goals as goal

pub returns : goal.returns
returns g c name prev links others d e same = record {
  count = set-length name links others d e same;
  ancestors = before-same name prev links others same d e;
  pasts = past-same name prev links others same d e;
  heights = height-same name prev links others same d e;
}
