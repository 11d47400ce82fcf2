use Rattle.acts.proofs.Forms.{form_add_role, no_fields, with_fields}
use Rattle.acts.proofs.reading.read_add_role.Goals as goal

pub returns-in_err-role : goal.returns-in_err-role
returns-in_err-role c = rw c.from_residual.ensures (no_fields form_add_role _ c.read_role.result c.in_err-role.was c.read_role.ensures)

pub returns : goal.returns
returns c = with_fields form_add_role _ c.in_ok-role.role c.in_ok-role.ensures
