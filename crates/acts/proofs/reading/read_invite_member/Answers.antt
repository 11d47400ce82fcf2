use Rattle.acts.proofs.Forms.{form_invite_member, no_fields, with_fields}
use Rattle.acts.proofs.reading.read_invite_member.Goals as goal

pub returns-in_err-key : goal.returns-in_err-key
returns-in_err-key c = rw c.from_residual.ensures (no_fields form_invite_member _ c.read_invitation.result c.in_err-key.was c.read_invitation.ensures)

pub returns : goal.returns
returns c = with_fields form_invite_member _ (c.in_ok-key.key, c.in_ok-key.limits) c.in_ok-key.ensures
