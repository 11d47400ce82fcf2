use Rattle.std.proofs.Common.{rules}
use Rattle.settlement.proofs.Pairs.{pairs-more}
use Rattle.settlement.proofs.settling.pair_set.Goals as goal

pub loop-pair-preserved : goal.loop-pair-preserved
loop-pair-preserved c =
    pairs-more c.loop-pair.pairs c.insert.new.self c.args.strikes.now c.loop-pair.pair-index _ (search rules) (search rules) c.loop-pair.invariant c.in_ok-insert.ensures.updates
