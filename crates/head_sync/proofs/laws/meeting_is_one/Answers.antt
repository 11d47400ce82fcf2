use Rattle.head_sync.proofs.MeetOnce.{meeting_once}
use Rattle.head_sync.proofs.laws.meeting_is_one.Goals as goal

pub returns : goal.returns
returns c = meeting_once c.items_are_given_once.ensures c.link_is_spelled_once.ensures
