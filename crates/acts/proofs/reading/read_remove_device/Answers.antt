use Rattle.acts.proofs.Forms.{form_remove_device, no_fields, with_fields}
use Rattle.acts.proofs.reading.read_remove_device.Goals as goal

pub returns-in_err-user : goal.returns-in_err-user
returns-in_err-user c = rw c.from_residual.ensures (no_fields form_remove_device _ c.read_user_hex.result c.in_err-user.was c.read_user_hex.ensures)

pub returns : goal.returns
returns c = with_fields form_remove_device _ (c.in_ok-user.user, c.in_ok-user.hex) c.in_ok-user.ensures
