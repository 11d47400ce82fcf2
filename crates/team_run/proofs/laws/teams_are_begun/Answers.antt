use Rattle.team_run.proofs.Firsts.{teams_begun}
use Rattle.team_run.proofs.laws.teams_are_begun.Goals as goal

pub returns : goal.returns
returns c = teams_begun
