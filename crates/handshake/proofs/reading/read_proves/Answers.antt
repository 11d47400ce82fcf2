use Rattle.handshake.proofs.Texts.{proofs_none, proofs_some}
use Rattle.handshake.proofs.reading.read_proves.Goals as goal

pub returns-in-Some : goal.returns-in-Some
returns-in-Some c = proofs_some c.args.text.now c.in_ok-signature.field-0 c.in-Some.signature c.in-Some.is c.in_ok-signature.ensures

pub returns-in-None : goal.returns-in-None
returns-in-None c = proofs_none c.args.text.now c.in_ok-signature.field-0 c.in-None.is c.in_ok-signature.ensures
