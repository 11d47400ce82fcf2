use Rattle.std.proofs.Common.{◌≡◌, ◌++◌, map, drop}
use Rattle.key_reach.proofs.lists.scopes_of.Given as goal

abbrev pub invariant-loop-key : goal.invariant-loop-key
invariant-loop-key l = l.scopes.items ++ map (λ k. k.scope) (drop l.key-index l.keys) ≡ map (λ k. k.scope) l.keys
