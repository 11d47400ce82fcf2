use Rattle.team_sets.proofs.Connects as lemmas
use Rattle.team_sets.proofs.laws.next_after.Goals as goal

pub returns : goal.returns
returns g c name prev placed y z = lemmas.next_after name prev placed y z
