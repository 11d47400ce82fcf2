use Rattle.team_model.specs.ShowText.{invitation_line}
use Rattle.team_report.proofs.Writing.{more_lines}
use Rattle.team_report.proofs.tables.write_each.Goals as goal

pub loop-invitation-preserved : goal.loop-invitation-preserved
loop-invitation-preserved c =
    more_lines invitation_line c.args.invitations.now c.loop-invitation.invitation-index c.invitation-item.result c.args.out.now c.loop-invitation.out c.write_invitation.new.out
    c.loop-invitation-test.true c.invitation-item.is c.loop-invitation.invariant c.in_ok-write_invitation.ensures
