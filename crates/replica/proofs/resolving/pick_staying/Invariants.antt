use Rattle.std.proofs.Common.{◌≡◌, filter, take}
use Rattle.replica.specs.Settling.{stays_at}
use Rattle.replica.proofs.resolving.pick_staying.Given as goal

abbrev pub invariant-loop-position : goal.invariant-loop-position
invariant-loop-position l = l.found.items ≡ filter (stays_at l.graph.links l.settled) (take l.position-index l.lawful)
