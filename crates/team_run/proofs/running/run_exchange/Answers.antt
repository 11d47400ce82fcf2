use Rattle.team_run.proofs.running.run_exchange.Goals as goal

pub returns-in-Merge-clause-runs : goal.returns-in-Merge-clause-runs
returns-in-Merge-clause-runs g c = rw c.in-Merge.is (rw c.in-Merge.is at c.run_merge.ensures.runs)

pub returns-in-Meet-clause-runs : goal.returns-in-Meet-clause-runs
returns-in-Meet-clause-runs g c = rw c.in-Meet.is (rw c.in-Meet.is at c.run_meet.ensures.runs)
