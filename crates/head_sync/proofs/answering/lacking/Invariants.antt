use Rattle.std.proofs.Common.{◌≡◌, ◌++◌, drop}
use Rattle.head_sync.specs.Sessions.{lacking}
use Rattle.head_sync.proofs.answering.lacking.Given as goal

abbrev pub invariant-loop-head : goal.invariant-loop-head
invariant-loop-head g l = l.names ++ lacking (g.H.LinkKeeper.held l.keeper) (drop l.head-index l.heads) ≡ lacking (g.H.LinkKeeper.held l.keeper) l.heads
