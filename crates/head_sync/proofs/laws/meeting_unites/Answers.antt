use Rattle.head_sync.proofs.United.{meeting_unites}
use Rattle.head_sync.proofs.laws.meeting_unites.Goals as goal

pub returns : goal.returns
returns c = meeting_unites c.link_is_spelled_once.ensures
