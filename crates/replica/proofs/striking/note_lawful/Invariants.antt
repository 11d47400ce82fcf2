use Rattle.replica.specs.Striking.{AreNoted}
use Rattle.replica.proofs.striking.note_lawful.Given as goal

abbrev pub invariant-loop-earlier : goal.invariant-loop-earlier
invariant-loop-earlier l = AreNoted l.graph.links l.reasons l.position l.earlier l.pairs.items
