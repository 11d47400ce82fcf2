use Rattle.std.proofs.Common.{◌≡◌, not, ◌&&◌, ◌++◌, filter, drop}
use Rattle.key_reach.specs.Keys.{is_device, is_live}
use Rattle.key_reach.proofs.reaching.push_unlisted.Given as goal

-- what is found, with what is left, is the whole
abbrev pub invariant-loop-key : goal.invariant-loop-key
invariant-loop-key g l =
    l.leaked.items ++ filter (λ k. is_device k.scope && not (is_live (g.V.KeyTable.table l.view) k.scope)) (drop l.key-index l.key-items)
    ≡ l.fn.leaked.items ++ filter (λ k. is_device k.scope && not (is_live (g.V.KeyTable.table l.view) k.scope)) (g.V.KeyTable.table l.view).currents
