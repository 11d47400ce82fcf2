use Rattle.team_run.proofs.running.run_signing.Goals as goal

pub returns-in-Make-clause-runs : goal.returns-in-Make-clause-runs
returns-in-Make-clause-runs g c = rw c.in-Make.is (rw c.in-Make.is at c.run_make.ensures.runs)

pub returns-in-Newkey-clause-runs : goal.returns-in-Newkey-clause-runs
returns-in-Newkey-clause-runs g c = rw c.in-Newkey.is (rw c.in-Newkey.is at c.run_newkey.ensures.runs)

pub returns-in-Plain-clause-runs : goal.returns-in-Plain-clause-runs
returns-in-Plain-clause-runs g c = rw c.in-Plain.is (rw c.in-Plain.is at c.run_plain.ensures.runs)
