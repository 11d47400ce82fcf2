use Rattle.acts.proofs.Forms.{form_add_member, no_fields, with_fields}
use Rattle.acts.proofs.reading.read_add_member.Goals as goal

pub returns-in_err-user : goal.returns-in_err-user
returns-in_err-user c = rw c.from_residual.ensures (no_fields form_add_member _ c.read_user_key_seal.result c.in_err-user.was c.read_user_key_seal.ensures)

pub returns : goal.returns
returns c = with_fields form_add_member _ (c.in_ok-user.user, c.in_ok-user.device) c.in_ok-user.ensures
