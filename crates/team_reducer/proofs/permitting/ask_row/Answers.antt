use Rattle.team_reducer.proofs.permitting.ask_row.Goals as goal

pub returns-in-AdmitMember : goal.returns-in-AdmitMember
returns-in-AdmitMember c = rw (c.in-AdmitMember.is, ← c.as_slice.ensures) (c.ask_admit_member.ensures c.in-AdmitMember.seal)

pub returns-in-AdmitDevice : goal.returns-in-AdmitDevice
returns-in-AdmitDevice c = rw (c.in-AdmitDevice.is, ← c.as_slice-in-AdmitDevice.ensures) (c.ask_admit_device.ensures c.in-AdmitDevice.seal)
