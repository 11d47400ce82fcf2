use Rattle.std.proofs.Common.{◌≡◌, ◌++◌}
use Rattle.head_sync.proofs.meeting.wait_all.Given as goal

abbrev pub invariant-loop-message : goal.invariant-loop-message
invariant-loop-message l = l.inbox.items ≡ l.fn.inbox.items ++ l.yielded
