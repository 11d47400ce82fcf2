use Rattle.std.proofs.Common.{Some, None}
use Rattle.handshake.proofs.Texts.{claims, claims_none}
use Rattle.handshake.proofs.reading.read_claims.Goals as goal

pub returns-in_err-claim : goal.returns-in_err-claim
returns-in_err-claim c = rw c.from_residual.ensures (claims_none c.args.text.now c.read_claim.result c.in_err-claim.was c.read_claim.ensures)

pub returns : goal.returns
returns c = claims c.args.text.now (Some c.in_ok-claim.claim) c.in_ok-claim.ensures
