use Rattle.team_run.proofs.Growing.{runs_union}
use Rattle.team_run.proofs.laws.runs_leave_union.Goals as goal

pub returns : goal.returns
returns c = λ keeper files last runs name old. runs_union c.link_is_spelled_once.ensures c.file_is_read_once.ensures c.bundle_is_read_once.ensures.once c.key_is_spelled_once.ensures c.meeting_unites.ensures keeper name files last runs old
