use Rattle.team_sets.proofs.Connects as lemmas
use Rattle.team_sets.proofs.laws.connects_next.Goals as goal

pub returns : goal.returns
returns g c name prev links placed = lemmas.connects_next name prev links placed
