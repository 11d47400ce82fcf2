use Rattle.std.proofs.Common.{◌≡◌, drop}
use Rattle.replica.specs.Settling.{decided_at}
use Rattle.replica.proofs.settling.decision_at.Given as goal

abbrev pub invariant-loop-place : goal.invariant-loop-place
invariant-loop-place l =
    decided_at l.position (drop l.place l.settled.acts.items) (drop l.place l.settled.decisions.items) ≡ decided_at l.position l.settled.acts.items l.settled.decisions.items
