use Rattle.team_state.proofs.Written.{kept-member, live-ascend}
use Rattle.team_state.proofs.state.TeamState.put_roles.Goals as goal

pub put_both-requires-clause-second : goal.put_both-requires-clause-second
put_both-requires-clause-second c = live-ascend _ _ _ c.self.invariant

pub invariant_of-self-2 : goal.invariant_of-self-2
invariant_of-self-2 c =
    rw (c.in_ok-put_both.ensures.first, c.in_ok-put_both.ensures.second) (kept-member _ _ _ c.self.invariant (record { user = c.args.user; roles = c.args.roles }))
