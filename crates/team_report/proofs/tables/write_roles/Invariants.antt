use Rattle.std.proofs.Common.{◌≡◌, ◌++◌, flat_map, take}
use Rattle.team_report.specs.Lines.{role_line}
use Rattle.team_report.proofs.tables.write_roles.Given as goal

abbrev pub invariant-loop-role : goal.invariant-loop-role
invariant-loop-role l = l.out ≡ l.fn.out ++ flat_map role_line (take l.role-index l.roles)
