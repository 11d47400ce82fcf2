use Rattle.team_state.proofs.Lookups.{tables-ascend}
use Rattle.team_state.proofs.state.TeamState.roles.Goals as goal

pub returns-clause-ascend : goal.returns-clause-ascend
returns-clause-ascend c = rw (c.as_slice.ensures.value, c.deref.ensures) (tables-ascend _ c.self.invariant.ordered).roles
