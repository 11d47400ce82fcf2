use Rattle.std.proofs.Common.{take}
use Rattle.settlement.specs.Pairs.{HasPairs}
use Rattle.settlement.proofs.settling.pair_set.Given as goal

abbrev pub invariant-loop-pair : goal.invariant-loop-pair
invariant-loop-pair l = HasPairs (take l.pair-index l.strikes) l.pairs
