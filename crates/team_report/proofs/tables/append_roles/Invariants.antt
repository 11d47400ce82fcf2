use Rattle.std.proofs.Common.{◌≡◌, ◌++◌, flat_map, take}
use Rattle.team_report.specs.Lines.{spaced_role}
use Rattle.team_report.proofs.tables.append_roles.Given as goal

abbrev pub invariant-loop-role : goal.invariant-loop-role
invariant-loop-role l = l.out ≡ l.fn.out ++ flat_map spaced_role (take l.role-index l.roles)
