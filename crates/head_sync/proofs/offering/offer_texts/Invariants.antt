use Rattle.std.proofs.Common.{take}
use Rattle.head_sync.specs.Bodies.{lent}
use Rattle.head_sync.specs.Steps.{AreOffered}
use Rattle.head_sync.proofs.offering.offer_texts.Given as goal

abbrev pub invariant-loop-i : goal.invariant-loop-i
invariant-loop-i g l = AreOffered (g.H.LinkKeeper.held l.fn.keeper) (lent (take l.i l.texts)) (g.H.LinkKeeper.held l.keeper) l.refused
