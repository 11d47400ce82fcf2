use Rattle.team_state.proofs.Written.{live-ascend}
use Rattle.team_state.proofs.state.TeamStateKeyTable.live.Goals as goal

pub has_scope-requires : goal.has_scope-requires
has_scope-requires c = rw (c.as_slice.ensures.value, c.deref.ensures) (live-ascend _ _ _ c.self.invariant)
