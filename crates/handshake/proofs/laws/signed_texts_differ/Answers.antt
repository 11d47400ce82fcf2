use Rattle.handshake.proofs.Spelled.{signed_once}
use Rattle.handshake.proofs.laws.signed_texts_differ.Goals as goal

pub returns : goal.returns
returns c = signed_once
