use Rattle.handshake.proofs.Accepted.{unproved_none}
use Rattle.handshake.proofs.laws.none_is_accepted_unproved.Goals as goal

pub returns : goal.returns
returns c = unproved_none
