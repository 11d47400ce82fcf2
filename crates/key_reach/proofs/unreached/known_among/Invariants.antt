use Rattle.std.proofs.Common.{◌≡◌, ◌++◌, filter, drop}
use Rattle.team_sets.specs.Closure.{has}
use Rattle.key_reach.specs.Keys.{same_key}
use Rattle.key_reach.proofs.unreached.known_among.Given as goal

abbrev pub invariant-loop-holder : goal.invariant-loop-holder
invariant-loop-holder l = l.known.items ++ filter (has same_key l.keys) (drop l.holder-index l.holders) ≡ filter (has same_key l.keys) l.holders
