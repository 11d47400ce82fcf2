use Rattle.acts.proofs.Forms.{form_found, no_fields, with_fields}
use Rattle.acts.proofs.reading.read_found.Goals as goal

pub returns-in_err-seal : goal.returns-in_err-seal
returns-in_err-seal c = rw c.from_residual.ensures (no_fields form_found _ c.read_seal_title.result c.in_err-seal.was c.read_seal_title.ensures)

pub returns : goal.returns
returns c = with_fields form_found _ (c.in_ok-seal.seal, c.in_ok-seal.title) c.in_ok-seal.ensures
