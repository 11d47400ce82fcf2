use Rattle.std.proofs.Common.{take}
use Rattle.replica.specs.Striking.{AreNotedOf}
use Rattle.replica.proofs.striking.note_struck.Given as goal

abbrev pub invariant-loop-striker : goal.invariant-loop-striker
invariant-loop-striker l = AreNotedOf l.graph.links l.reasons l.position (take l.striker-index l.strikers) l.pairs.items
