use Rattle.std.proofs.Common.{◌≡◌, ◌++◌, drop, map}
use Rattle.team_reducer.specs.Prints.{pair_of}
use Rattle.team_reducer.proofs.known.pairs_of.Given as goal

abbrev pub invariant-loop-line : goal.invariant-loop-line
invariant-loop-line l = l.pairs.items ++ map pair_of (drop l.line-index l.lines) ≡ map pair_of l.lines
