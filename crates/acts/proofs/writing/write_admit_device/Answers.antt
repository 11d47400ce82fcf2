use Rattle.std.proofs.Common.{codes}
use Rattle.acts.proofs.Appends.{appends_last}
use Rattle.acts.proofs.writing.write_admit_device.Goals as goal

pub returns-clause-ok : goal.returns-clause-ok
returns-clause-ok c = appends_last c.add_admission.result c.args.out.now (codes "admit_device") _ _ c.add_admission.new.out c.in_ok-append.ensures.ok c.add_admission.ensures.ok
