use Rattle.std.proofs.Common.{◌≡◌, not, ◌++◌, map, filter, drop}
use Rattle.key_reach.proofs.reaching.push_unlawful.Given as goal

-- what is found, with what is left, is the whole
abbrev pub invariant-loop-line : goal.invariant-loop-line
invariant-loop-line g l =
    l.leaked.items ++ map (λ b. b.of) (filter (λ b. not ((g.V.KeyTable.table l.view).allowed b.to.scope b.of.scope)) (drop l.line-index l.line-items))
    ≡ l.fn.leaked.items ++ map (λ b. b.of) (filter (λ b. not ((g.V.KeyTable.table l.view).allowed b.to.scope b.of.scope)) (g.V.KeyTable.table l.view).boxes)
