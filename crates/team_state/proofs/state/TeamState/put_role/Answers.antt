use Rattle.team_state.proofs.Written.{kept-role, live-ascend}
use Rattle.team_state.proofs.state.TeamState.put_role.Goals as goal

pub put_both-requires-clause-second : goal.put_both-requires-clause-second
put_both-requires-clause-second c = live-ascend _ _ _ c.self.invariant

pub invariant_of-self-2 : goal.invariant_of-self-2
invariant_of-self-2 c = rw (c.in_ok-put_both.ensures.first, c.in_ok-put_both.ensures.second) (kept-role _ _ _ c.self.invariant c.args.role)
