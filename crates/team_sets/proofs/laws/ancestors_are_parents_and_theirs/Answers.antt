use Rattle.team_sets.proofs.Ancestors.{unrolled}
use Rattle.team_sets.proofs.laws.ancestors_are_parents_and_theirs.Goals as goal

pub returns : goal.returns
returns g c name prev links differ x k a = unrolled name prev links differ x k a
