use Rattle.team_model.proofs.PastTeams.{team-past}
use Rattle.team_model.proofs.laws.team_of_past.Goals as goal

pub returns : goal.returns
returns c rules links differ x k = team-past rules links differ x k
