use Rattle.std.proofs.Common.{◌≡◌, not, ◌++◌, filter, drop}
use Rattle.team_sets.specs.Closure.{has}
use Rattle.key_reach.specs.Keys as words
use Rattle.key_reach.proofs.current.without.Given as goal

abbrev pub invariant-loop-key : goal.invariant-loop-key
invariant-loop-key l =
    l.clean.items ++ filter (λ k. not (has words.same_key l.tainted k)) (drop l.key-index l.keys) ≡ filter (λ k. not (has words.same_key l.tainted k)) l.keys
