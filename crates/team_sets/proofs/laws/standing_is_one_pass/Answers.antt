use Rattle.team_sets.proofs.Standing.{standing-pass}
use Rattle.team_sets.proofs.laws.standing_is_one_pass.Goals as goal

pub returns : goal.returns
returns g c senior strikes acts = standing-pass senior strikes acts
