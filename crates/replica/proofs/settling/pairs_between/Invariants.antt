use Rattle.std.proofs.Common.{◌≡◌, filter, take}
use Rattle.replica.specs.Settling.{is_between}
use Rattle.replica.proofs.settling.pairs_between.Given as goal

abbrev pub invariant-loop-pair : goal.invariant-loop-pair
invariant-loop-pair l = l.pairs.items ≡ filter (is_between l.graph.links l.marked) (take l.pair-index l.strikes)
