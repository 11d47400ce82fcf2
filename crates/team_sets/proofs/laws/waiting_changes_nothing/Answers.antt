use Rattle.team_sets.proofs.SameOrder.{waiting}
use Rattle.team_sets.proofs.laws.waiting_changes_nothing.Goals as goal

pub returns : goal.returns
returns g c name prev links differ = waiting name prev links differ
