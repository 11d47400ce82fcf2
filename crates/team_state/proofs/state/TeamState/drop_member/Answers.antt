use Rattle.team_state.proofs.Written.{kept-read, kept-without_member}
use Rattle.team_state.proofs.state.TeamState.drop_member.Goals as goal

pub invariant_of-self-2 : goal.invariant_of-self-2
invariant_of-self-2 c =
    let dropped = c.in_ok-drop_user.ensures in
    rw (dropped.members, dropped.devices, c.in_ok-scopes-2.ensures, c.in_ok-scopes.ensures, c.as_slice.ensures.value, c.as_slice-2.ensures.value, c.deref.ensures, c.deref-2.ensures)
    (kept-read _ _ _ (kept-without_member _ _ _ c.self.invariant c.args.user.now))
