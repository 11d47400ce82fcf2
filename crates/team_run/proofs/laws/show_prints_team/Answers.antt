use Rattle.team_run.proofs.Shown.{show_prints}
use Rattle.team_run.proofs.laws.show_prints_team.Goals as goal

pub returns : goal.returns
returns c = show_prints c.file_is_read_once.ensures c.text_is_of_set.ensures
