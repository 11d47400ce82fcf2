use Rattle.team_run.proofs.Served.{ends_well}
use Rattle.team_run.proofs.laws.served_end_well.Goals as goal

pub returns : goal.returns
returns c = ends_well
