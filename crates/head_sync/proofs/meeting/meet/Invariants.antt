use Rattle.std.proofs.Common.{◌+◌, length}
use Rattle.head_sync.specs.Waiting.{weight}
use Rattle.head_sync.proofs.Rounds.{IsUnderWay}
use Rattle.head_sync.proofs.meeting.meet.Given as goal

-- the meeting of the keepers at the start is under way
abbrev pub invariant-loop-second : goal.invariant-loop-second
invariant-loop-second g l =
    IsUnderWay (g.A.LinkKeeper.held l.fn.one) (g.B.LinkKeeper.held l.fn.two) l.first.session l.second.session (g.A.LinkKeeper.held l.one) (g.B.LinkKeeper.held l.two) l.first.inbox.items
    l.second.inbox.items l.passed

-- less is left after each round
abbrev pub decreases-loop-second : goal.decreases-loop-second
decreases-loop-second g l = weight l.first.session (length l.first.inbox.items) + weight l.second.session (length l.second.inbox.items)
