use Rattle.std.proofs.Common.{◌≡◌, find, drop}
use Rattle.team_sets.specs.Settlement.{conflicts}
use Rattle.settlement.specs.Pairs.{set_strikes}
use Rattle.settlement.specs.Ranks.{is_senior}
use Rattle.settlement.proofs.settling.decide.Given as goal

abbrev pub invariant-loop-s : goal.invariant-loop-s
invariant-loop-s l =
    find (λ x. conflicts is_senior (set_strikes l.pairs) x l.act) l.stood
    ≡ find (λ x. conflicts is_senior (set_strikes l.pairs) x l.act) (drop l.s-index l.stood)
