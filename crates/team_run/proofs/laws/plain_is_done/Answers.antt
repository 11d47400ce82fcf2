use Rattle.team_run.proofs.Shown.{plain_done}
use Rattle.team_run.proofs.laws.plain_is_done.Goals as goal

pub returns : goal.returns
returns c = plain_done c.file_is_read_once.ensures c.key_is_spelled_once.ensures
