use Rattle.openers.proofs.Teams.{team_found_once}
use Rattle.openers.proofs.laws.team_is_found_once.Goals as goal

pub returns : goal.returns
returns c = team_found_once c.file_is_read_once.ensures
