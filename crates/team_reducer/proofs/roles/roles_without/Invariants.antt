use Rattle.std.proofs.Common.{◌≡◌, not, filter, take}
use Rattle.team_sets.specs.Names.{same_name}
use Rattle.team_reducer.proofs.roles.roles_without.Given as goal

abbrev pub invariant-loop-other : goal.invariant-loop-other
invariant-loop-other l = l.without.items ≡ filter (λ r. not (same_name r l.role)) (take l.other-index l.roles)
