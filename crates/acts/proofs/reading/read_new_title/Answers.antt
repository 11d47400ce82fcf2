use Rattle.acts.proofs.Forms.{form_title, no_fields, with_fields}
use Rattle.acts.proofs.reading.read_new_title.Goals as goal

pub returns-in_err-title : goal.returns-in_err-title
returns-in_err-title c = rw c.from_residual.ensures (no_fields form_title _ c.read_title.result c.in_err-title.was c.read_title.ensures)

pub returns : goal.returns
returns c = with_fields form_title _ c.in_ok-title.title c.in_ok-title.ensures
