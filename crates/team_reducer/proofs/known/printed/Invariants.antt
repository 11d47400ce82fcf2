use Rattle.std.proofs.Common.{◌≡◌, ◌++◌, drop, filter}
use Rattle.team_reducer.specs.Prints.{may_be}
use Rattle.team_reducer.proofs.known.printed.Given as goal

abbrev pub invariant-loop-line : goal.invariant-loop-line
invariant-loop-line l = l.known.items ++ filter (may_be l.pairs l.prints) (drop l.line-index l.held) ≡ filter (may_be l.pairs l.prints) l.held
