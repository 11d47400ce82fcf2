use Rattle.std.proofs.Common.{◌≡◌, ◌++◌, map, filter, drop}
use Rattle.key_reach.specs.declared.debt.Debt.TheVariants.{NoKey}
use Rattle.key_reach.specs.Debts as words
use Rattle.key_reach.proofs.owing.push_no_keys.Given as goal

abbrev pub invariant-loop-scope : goal.invariant-loop-scope
invariant-loop-scope g l =
    l.debts.items ++ map (λ s. NoKey s) (filter (words.is_without_key (g.V.KeyTable.table l.view)) (drop l.scope-index l.scope-items)) ≡ l.fn.debts.items ++ words.no_keys (g.V.KeyTable.table l.view)
