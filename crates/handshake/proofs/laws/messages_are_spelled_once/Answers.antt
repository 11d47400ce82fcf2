use Rattle.handshake.proofs.Spelled.{message_once}
use Rattle.handshake.proofs.laws.messages_are_spelled_once.Goals as goal

pub returns : goal.returns
returns c = message_once
