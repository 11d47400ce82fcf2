use Rattle.team_state.proofs.Written.{kept-box}
use Rattle.team_state.proofs.state.TeamState.put_box.Goals as goal

pub invariant_of-self-2 : goal.invariant_of-self-2
invariant_of-self-2 c = rw c.in_ok-append.ensures.ok (kept-box _ _ _ c.self.invariant c.in_ok-copy.field-0)
