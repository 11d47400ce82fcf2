use Rattle.team_sets.proofs.SameRanks.{settle-alike}
use Rattle.team_sets.proofs.laws.settlement_is_of_ranks.Goals as goal

pub returns : goal.returns
returns g c senior strikes other_senior other_strikes acts alike = settle-alike senior strikes other_senior other_strikes acts alike
