use Rattle.team_state.proofs.Written.{kept-invitation}
use Rattle.team_state.proofs.state.TeamState.put_invitation.Goals as goal

pub invariant_of-self-2 : goal.invariant_of-self-2
invariant_of-self-2 c = rw c.in_ok-put.ensures.ok (kept-invitation _ _ _ c.self.invariant c.args.invitation)
