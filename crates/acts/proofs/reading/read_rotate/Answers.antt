use Rattle.acts.proofs.Forms.{form_rotate, no_fields, with_fields}
use Rattle.acts.proofs.reading.read_rotate.Goals as goal

pub returns-in_err-scope : goal.returns-in_err-scope
returns-in_err-scope c = rw c.from_residual.ensures (no_fields form_rotate _ c.read_rotated.result c.in_err-scope.was c.read_rotated.ensures)

pub returns : goal.returns
returns c = with_fields form_rotate _ c.in_ok-scope.scope c.in_ok-scope.ensures
