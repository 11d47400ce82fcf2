use Rattle.acts.proofs.Forms.{form_give_role, no_fields, with_fields}
use Rattle.acts.proofs.reading.read_give_role.Goals as goal

pub returns-in_err-user : goal.returns-in_err-user
returns-in_err-user c = rw c.from_residual.ensures (no_fields form_give_role _ c.read_user_role.result c.in_err-user.was c.read_user_role.ensures)

pub returns : goal.returns
returns c = with_fields form_give_role _ (c.in_ok-user.user, c.in_ok-user.role) c.in_ok-user.ensures
