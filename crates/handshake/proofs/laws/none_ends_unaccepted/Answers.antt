use Rattle.handshake.proofs.Ending.{unaccepted_none}
use Rattle.handshake.proofs.laws.none_ends_unaccepted.Goals as goal

pub returns : goal.returns
returns c = unaccepted_none
