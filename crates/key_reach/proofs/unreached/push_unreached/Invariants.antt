use Rattle.std.proofs.Common.{◌≡◌, ◌++◌, flat_map, drop}
use Rattle.key_reach.specs.Backwards.{AreTurned}
use Rattle.key_reach.specs.Debts as words
use Rattle.key_reach.proofs.unreached.push_unreached.Given as goal

abbrev pub invariant-loop-key : goal.invariant-loop-key
invariant-loop-key g l =
    let t = g.V.KeyTable.table l.view in record {
      graphs : AreTurned t l.graphs;
      debts : l.debts.items ++ flat_map (words.unreached_of t (words.device_names t)) (drop l.key-index l.keys) ≡ l.fn.debts.items ++ flat_map (words.unreached_of t (words.device_names t)) l.keys;
    }
