use Rattle.std.proofs.Common.{◌≡◌, ◌++◌, filter, drop}
use Rattle.team_sets.specs.Closure.{has}
use Rattle.key_reach.specs.Keys.{same_scope}
use Rattle.key_reach.proofs.current.live_keys.Given as goal

abbrev pub invariant-loop-key : goal.invariant-loop-key
invariant-loop-key l = l.live.items ++ filter (λ k. has same_scope l.scopes k.scope) (drop l.key-index l.keys) ≡ filter (λ k. has same_scope l.scopes k.scope) l.keys
