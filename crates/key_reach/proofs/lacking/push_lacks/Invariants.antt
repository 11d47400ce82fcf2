use Rattle.std.proofs.Common.{◌≡◌, ◌++◌, drop}
use Rattle.key_reach.specs.Keys as words
use Rattle.key_reach.proofs.lacking.push_lacks.Given as goal

abbrev pub invariant-loop-of : goal.invariant-loop-of
invariant-loop-of g l =
    let t = g.V.KeyTable.table l.view in
    l.pairs.items ++ words.lacks_to t (drop l.of-index l.clean) l.to ≡ l.fn.pairs.items ++ words.lacks_to t l.clean l.to
