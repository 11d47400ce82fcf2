use Rattle.acts.proofs.Forms.{form_add_device, no_fields, with_fields}
use Rattle.acts.proofs.reading.read_add_device.Goals as goal

pub returns-in_err-key : goal.returns-in_err-key
returns-in_err-key c = rw c.from_residual.ensures (no_fields form_add_device _ c.read_key_seal.result c.in_err-key.was c.read_key_seal.ensures)

pub returns : goal.returns
returns c = with_fields form_add_device _ (c.in_ok-key.key, c.in_ok-key.seal) c.in_ok-key.ensures
