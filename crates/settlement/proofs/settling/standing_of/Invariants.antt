use Rattle.std.proofs.Common.{◌≡◌, [], fold, take}
use Rattle.team_sets.specs.Settlement.{stand_next}
use Rattle.settlement.specs.Pairs.{set_strikes}
use Rattle.settlement.specs.Ranks.{is_senior}
use Rattle.settlement.proofs.settling.standing_of.Given as goal

abbrev pub invariant-loop-act : goal.invariant-loop-act
invariant-loop-act l = l.stood.items ≡ fold (stand_next is_senior (set_strikes l.pairs)) [] (take l.act-index l.act-items)
