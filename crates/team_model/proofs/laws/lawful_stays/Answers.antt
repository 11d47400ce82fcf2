use Rattle.std.proofs.Common.{ap}
use Rattle.team_model.specs.Judging.{name_of, prev_of, team}
use Rattle.team_sets.proofs.Stays.{past-stays}
use Rattle.team_model.proofs.laws.lawful_stays.Goals as goal

pub returns : goal.returns
returns c rules links z differ fresh x k = ap (λ l. rules.refusal (team rules l) x.entry) (past-stays name_of prev_of links z differ fresh x k)
