use Rattle.std.proofs.Common.{◌≡◌, ◌++◌, drop}
use Rattle.key_reach.specs.Keys.{box_arrows}
use Rattle.key_reach.proofs.lacking.boxed_pairs.Given as goal

abbrev pub invariant-loop-line : goal.invariant-loop-line
invariant-loop-line l = l.pairs.items ++ box_arrows (drop l.line-index l.boxes) ≡ box_arrows l.boxes
