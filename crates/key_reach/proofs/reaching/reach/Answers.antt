use Rattle.std.proofs.Common.{◌≡◌, length, rules, slice_index_or}
use Rattle.key_reach.proofs.GoneBack.{keys-there}
use Rattle.key_reach.proofs.Nothing.{none-reached}
use Rattle.key_reach.proofs.reaching.reach.Goals as goal

pub returns-then-is_empty : goal.returns-then-is_empty
returns-then-is_empty c =
    let none : length c.args.from.now ≡ 0 = search rules in
    none-reached c.args.boxes.now c.args.from.now none c.new.result.items c.new.ensures.items

pub keys_from-requires-clause-nodes : goal.keys_from-requires-clause-nodes
keys_from-requires-clause-nodes c = λ k d lt. c.in_ok-graph.ensures.nodes (slice_index_or c.args.from.now k d) (keys-there c.args.from.now k d lt)
