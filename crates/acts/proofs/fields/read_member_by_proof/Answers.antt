use Rattle.acts.specs.ActText.{IsName}
use Rattle.acts.specs.Fields.{IsDeviceByProof, spell_device_by_proof, spell_text}
use Rattle.acts.proofs.Pairs.{two_read, name_word}
use Rattle.acts.proofs.fields.read_member_by_proof.Goals as goal

pub returns : goal.returns
returns c = rw c.zip.ensures (two_read IsName IsDeviceByProof spell_text spell_device_by_proof _ _ _ _ _ (name_word) c.in-Some.ensures.some.0 c.in-Some.ensures.some.1 c.read_user.ensures c.in_ok-rest.ensures)
