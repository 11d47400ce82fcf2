use Rattle.std.proofs.Common.{◌≡◌, ◌++◌, map, filter, drop}
use Rattle.key_reach.proofs.scope_graphs.push_arrows.Given as goal

abbrev pub invariant-loop-to : goal.invariant-loop-to
invariant-loop-to g l =
    let t = g.V.KeyTable.table l.view in
    l.arrows.items ++ map (λ b. (b, l.from)) (filter (t.allowed l.from) (drop l.to-index l.to-items)) ≡ l.fn.arrows.items ++ map (λ b. (b, l.from)) (filter (t.allowed l.from) t.scopes)
