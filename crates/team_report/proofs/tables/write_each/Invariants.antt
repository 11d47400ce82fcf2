use Rattle.std.proofs.Common.{◌≡◌, ◌++◌, flat_map, take}
use Rattle.team_model.specs.ShowText.{invitation_line}
use Rattle.team_report.proofs.tables.write_each.Given as goal

abbrev pub invariant-loop-invitation : goal.invariant-loop-invitation
invariant-loop-invitation l = l.out ≡ l.fn.out ++ flat_map invitation_line (take l.invitation-index l.invitations)
