use Rattle.team_sets.proofs.Distinct.{distinct-differ}
use Rattle.team_sets.proofs.laws.distinct_names.Goals as goal

pub returns : goal.returns
returns g c name links distinct = distinct-differ name links distinct
