use Rattle.team_sets.proofs.Standing.{pass-part}
use Rattle.team_sets.proofs.laws.part_stands_alone.Goals as goal

pub returns : goal.returns
returns g c senior strikes part ranked across = pass-part senior strikes part ranked across
