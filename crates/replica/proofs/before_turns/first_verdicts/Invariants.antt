use Rattle.std.proofs.Common.{◌≡◌, map, take}
use Rattle.link_graph.specs.Held.{arrived_of}
use Rattle.replica.specs.Resolving.{first_verdict}
use Rattle.replica.proofs.before_turns.first_verdicts.Given as goal

abbrev pub invariant-loop-position : goal.invariant-loop-position
invariant-loop-position l = l.verdicts.items ≡ map (first_verdict l.graph.links) (take l.position (arrived_of l.graph.links))
