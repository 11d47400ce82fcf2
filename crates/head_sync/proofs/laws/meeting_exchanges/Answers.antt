use Rattle.head_sync.proofs.Asked.{meeting_exchanges}
use Rattle.head_sync.proofs.laws.meeting_exchanges.Goals as goal

pub returns : goal.returns
returns c = meeting_exchanges
