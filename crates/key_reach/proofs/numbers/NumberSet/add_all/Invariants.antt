use Rattle.std.proofs.Common.{◌≡◌, drop, fold}
use Rattle.key_reach.specs.Numbers.{added}
use Rattle.key_reach.proofs.numbers.NumberSet.add_all.Given as goal

abbrev pub invariant-loop-number : goal.invariant-loop-number
invariant-loop-number l = record {
  size : l.self.size ≡ l.fn.self.size;
  members : fold added l.self.members (drop l.number-index l.numbers) ≡ fold added l.fn.self.members l.numbers;
}
