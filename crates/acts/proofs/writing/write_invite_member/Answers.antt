use Rattle.std.proofs.Common.{codes}
use Rattle.acts.proofs.Appends.{appends_last}
use Rattle.acts.proofs.writing.write_invite_member.Goals as goal

pub returns-clause-ok : goal.returns-clause-ok
returns-clause-ok c = (appends_last c.add_invitation.result c.args.out.now (codes "invite_member") _ _ c.add_invitation.new.out c.in_ok-append.ensures.ok c.add_invitation.ensures.ok)
