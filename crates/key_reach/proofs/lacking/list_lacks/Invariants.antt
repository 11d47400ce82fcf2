use Rattle.std.proofs.Common.{◌≡◌, ◌++◌, flat_map, drop}
use Rattle.key_reach.specs.Keys as words
use Rattle.key_reach.proofs.lacking.list_lacks.Given as goal

abbrev pub invariant-loop-to : goal.invariant-loop-to
invariant-loop-to g l =
    let t = g.V.KeyTable.table l.view in
    l.pairs.items ++ flat_map (words.lacks_to t (words.clean t)) (drop l.to-index l.clean) ≡ words.lacks t
