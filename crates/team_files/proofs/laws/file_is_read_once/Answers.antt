use Rattle.team_files.proofs.Once.{file_once}
use Rattle.team_files.proofs.laws.file_is_read_once.Goals as goal

pub returns : goal.returns
returns c = file_once c.link_is_spelled_once.ensures
