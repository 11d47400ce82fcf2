use Rattle.acts.proofs.Forms.{form_revoke, no_fields, with_fields}
use Rattle.acts.proofs.reading.read_revoke.Goals as goal

pub returns-in_err-kind : goal.returns-in_err-kind
returns-in_err-kind c = rw c.from_residual.ensures (no_fields form_revoke _ c.read_kind_hex.result c.in_err-kind.was c.read_kind_hex.ensures)

pub returns : goal.returns
returns c = with_fields form_revoke _ (c.in_ok-kind.kind, c.in_ok-kind.hex) c.in_ok-kind.ensures
