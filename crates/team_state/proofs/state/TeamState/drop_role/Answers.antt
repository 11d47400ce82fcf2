use Rattle.team_state.proofs.Written.{kept-without_role, live-ascend}
use Rattle.team_state.proofs.state.TeamState.drop_role.Goals as goal

pub drop_both-requires-clause-second : goal.drop_both-requires-clause-second
drop_both-requires-clause-second c = live-ascend _ _ _ c.self.invariant

pub invariant_of-self-2 : goal.invariant_of-self-2
invariant_of-self-2 c = rw (c.in_ok-drop_both.ensures.first, c.in_ok-drop_both.ensures.second) (kept-without_role _ _ _ c.self.invariant c.args.role.now)
