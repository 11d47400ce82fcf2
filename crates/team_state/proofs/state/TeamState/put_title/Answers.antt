use Rattle.team_state.proofs.Written.{kept-title, live-ascend}
use Rattle.team_state.proofs.state.TeamState.put_title.Goals as goal

pub put-requires : goal.put-requires
put-requires c = live-ascend _ _ _ c.self.invariant

pub invariant_of-self-2 : goal.invariant_of-self-2
invariant_of-self-2 c = rw c.in_ok-put.ensures.ok (kept-title _ _ _ c.self.invariant c.args.title)
