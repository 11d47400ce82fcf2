use Rattle.std.proofs.Common.{◌≡◌, drop}
use Rattle.replica.specs.Settling.{first_standing}
use Rattle.replica.proofs.settling.first_striker.Given as goal

abbrev pub invariant-loop-act : goal.invariant-loop-act
invariant-loop-act l =
    first_standing l.graph.links l.settled.standing.items (drop l.act-index l.settled.acts.items) l.position ≡ first_standing l.graph.links l.settled.standing.items l.settled.acts.items l.position
