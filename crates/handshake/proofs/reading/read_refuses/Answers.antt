use Rattle.std.proofs.Common.{Some, None}
use Rattle.handshake.proofs.Texts.{refusals, refusals_none}
use Rattle.handshake.proofs.reading.read_refuses.Goals as goal

pub returns-in_err-fault : goal.returns-in_err-fault
returns-in_err-fault c = rw c.from_residual.ensures (refusals_none c.args.text.now c.read_refused.result c.in_err-fault.was c.read_refused.ensures)

pub returns : goal.returns
returns c = refusals c.args.text.now (Some c.in_ok-fault.fault) c.in_ok-fault.ensures
