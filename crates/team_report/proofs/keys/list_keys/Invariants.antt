use Rattle.std.proofs.Common.{◌≡◌, ◌++◌, map, drop}
use Rattle.team_report.proofs.keys.list_keys.Given as goal

abbrev pub invariant-loop-pair : goal.invariant-loop-pair
invariant-loop-pair l = l.keys.items ++ map (λ o. o.key) (drop l.pair-index l.opened) ≡ map (λ o. o.key) l.opened
