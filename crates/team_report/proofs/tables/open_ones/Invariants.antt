use Rattle.std.proofs.Common.{◌≡◌, ◌++◌, drop, filter, not}
use Rattle.team_report.proofs.tables.open_ones.Given as goal

abbrev pub invariant-loop-invitation : goal.invariant-loop-invitation
invariant-loop-invitation l = l.kept.items ++ filter (λ i. not i.closed) (drop l.invitation-index l.invitations) ≡ filter (λ i. not i.closed) l.invitations
