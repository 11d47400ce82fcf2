use Rattle.team_run.proofs.Alike.{any_order}
use Rattle.team_run.proofs.laws.runs_in_any_order.Goals as goal

pub returns : goal.returns
returns c = any_order c.merges_in_any_order.ensures c.runs_leave_union.ensures
