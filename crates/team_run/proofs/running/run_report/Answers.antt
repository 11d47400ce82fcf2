use Rattle.team_run.proofs.running.run_report.Goals as goal

pub returns-in-Show-clause-runs : goal.returns-in-Show-clause-runs
returns-in-Show-clause-runs g c = rw c.in-Show.is (rw c.in-Show.is at c.run_show.ensures.runs)

pub returns-in-Log-clause-runs : goal.returns-in-Log-clause-runs
returns-in-Log-clause-runs g c = rw c.in-Log.is (rw c.in-Log.is at c.run_log.ensures.runs)

pub returns-in-Heads-clause-runs : goal.returns-in-Heads-clause-runs
returns-in-Heads-clause-runs g c = rw c.in-Heads.is (rw c.in-Heads.is at c.run_heads.ensures.runs)

pub returns-in-Why-clause-runs : goal.returns-in-Why-clause-runs
returns-in-Why-clause-runs g c = rw c.in-Why.is (rw c.in-Why.is at c.run_why.ensures.runs)

pub returns-in-Keys-clause-runs : goal.returns-in-Keys-clause-runs
returns-in-Keys-clause-runs g c = rw c.in-Keys.is (rw c.in-Keys.is at c.run_keys.ensures.runs)
