use Rattle.acts.specs.Fields.{AreTwo}
use Rattle.invitations.specs.Parts.{AreAdmitted, AreOfDevice, AreSigned, both_lines, admitted_lines, of_device_lines, signed_lines}
use Rattle.invitations.proofs.PartLaws.{takes_both}
use Rattle.invitations.proofs.proof_lines.next_parts.Goals as goal

pub returns : goal.returns
returns c = rw (c.zip-2.ensures, c.zip.ensures) (takes_both AreAdmitted (AreTwo AreOfDevice AreSigned) admitted_lines (both_lines of_device_lines signed_lines) _ _ _ _ _ c.next_admitted-admitted.ensures
    (takes_both AreOfDevice AreSigned of_device_lines signed_lines _ _ _ _ _ c.next_of_device-of_device.ensures c.in_ok-signed.ensures))
