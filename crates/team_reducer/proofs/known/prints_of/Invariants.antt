use Rattle.std.proofs.Common.{◌≡◌, ◌++◌, drop, map}
use Rattle.team_reducer.specs.Prints.{print_of}
use Rattle.team_reducer.proofs.known.prints_of.Given as goal

abbrev pub invariant-loop-line : goal.invariant-loop-line
invariant-loop-line l = l.prints.items ++ map print_of (drop l.line-index l.lines) ≡ map print_of l.lines
