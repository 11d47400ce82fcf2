use Rattle.team_sets.proofs.Arrivals as lemmas
use Rattle.team_sets.proofs.laws.arrived_extends.Goals as goal

pub returns : goal.returns
returns g c name prev links x = lemmas.arrived_extends name prev links x
