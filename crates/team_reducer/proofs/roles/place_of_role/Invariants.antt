use Rattle.std.proofs.Common.{◌≡◌, ◌++◌, drop, take}
use Rattle.team_sets.specs.Names.{name_lt, put_in}
use Rattle.team_reducer.proofs.roles.place_of_role.Given as goal

abbrev pub invariant-loop-i : goal.invariant-loop-i
invariant-loop-i l = put_in name_lt l.role l.roles ≡ take l.i l.roles ++ put_in name_lt l.role (drop l.i l.roles)
