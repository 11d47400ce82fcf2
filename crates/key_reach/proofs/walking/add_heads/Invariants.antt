use Rattle.std.proofs.Common.{◌≡◌, drop, fold, map}
use Rattle.key_reach.specs.Numbers.{added}
use Rattle.key_reach.proofs.walking.add_heads.Given as goal

abbrev pub invariant-loop-head : goal.invariant-loop-head
invariant-loop-head l = record {
  size : l.reached.size ≡ l.fn.reached.size;
  members : fold added l.reached.members (map (λ a. a.1) (drop l.head-index l.arrows)) ≡ fold added l.fn.reached.members (map (λ a. a.1) l.arrows);
}
