use Rattle.std.proofs.Common.{◌≡◌, map, take}
use Rattle.team_sets.specs.Settlement.{standing}
use Rattle.settlement.specs.Pairs.{decision_from, set_strikes}
use Rattle.settlement.specs.Ranks.{is_senior}
use Rattle.settlement.proofs.settling.decide_all.Given as goal

abbrev pub invariant-loop-act : goal.invariant-loop-act
invariant-loop-act l = l.decisions.items ≡ map (decision_from (set_strikes l.pairs) (standing is_senior (set_strikes l.pairs) l.acts)) (take l.act-index l.acts)
