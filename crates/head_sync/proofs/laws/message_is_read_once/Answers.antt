use Rattle.head_sync.proofs.ReadOnce.{message_once}
use Rattle.head_sync.proofs.laws.message_is_read_once.Goals as goal

pub returns : goal.returns
returns c = message_once
