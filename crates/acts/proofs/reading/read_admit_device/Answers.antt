use Rattle.acts.proofs.Forms.{form_admit_device, no_fields, with_read}
use Rattle.acts.proofs.reading.read_admit_device.Goals as goal

pub returns-in-Some : goal.returns-in-Some
returns-in-Some c = rw c.admit_device.ensures (with_read form_admit_device _ c.in_ok-fields.field-0 c.in-Some.fields c.in-Some.is c.in_ok-fields.ensures)

pub returns-in-None : goal.returns-in-None
returns-in-None c = no_fields form_admit_device _ c.in_ok-fields.field-0 c.in-None.is c.in_ok-fields.ensures
