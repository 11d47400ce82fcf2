use Rattle.link_graph.proofs.Marks.{IsMarking}
use Rattle.link_graph.proofs.below.mark_within.Given as goal

abbrev pub invariant-loop-position : goal.invariant-loop-position
invariant-loop-position l = IsMarking l.graph.links l.names l.position l.flags
