use Rattle.team_run.proofs.Shown.{merge_done}
use Rattle.team_run.proofs.laws.merge_is_done.Goals as goal

pub returns : goal.returns
returns c = merge_done
