use Rattle.std.proofs.Common.{◌≡◌, ◌++◌, drop}
use Rattle.key_reach.specs.Debts as words
use Rattle.key_reach.proofs.owing.push_tainted.Given as goal

abbrev pub invariant-loop-key : goal.invariant-loop-key
invariant-loop-key g l = l.debts.items ++ words.tainted_of (g.V.KeyTable.table l.view) (drop l.key-index l.keys) ≡ l.fn.debts.items ++ words.tainted_of (g.V.KeyTable.table l.view) l.keys
