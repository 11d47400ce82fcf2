use Rattle.std.proofs.Common.{◌≡◌, ◌-◌}
use Rattle.key_reach.proofs.Walked.{IsWalked}
use Rattle.key_reach.proofs.walking.walk.Given as goal

abbrev pub decreases-loop-next : goal.decreases-loop-next
decreases-loop-next l = l.reached.size - l.next

abbrev pub invariant-loop-next : goal.invariant-loop-next
invariant-loop-next l = record {
  size : l.reached.size ≡ l.fn.reached.size;
  walked : IsWalked l.arrows l.fn.reached.members l.reached.members l.next;
}
