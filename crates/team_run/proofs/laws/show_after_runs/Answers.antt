use Rattle.team_run.proofs.Shown.{show_after}
use Rattle.team_run.proofs.laws.show_after_runs.Goals as goal

pub returns : goal.returns
returns c = show_after c.file_is_read_once.ensures c.text_is_of_set.ensures c.runs_leave_union.ensures
