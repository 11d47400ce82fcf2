use Rattle.team_state.proofs.Lookups.{tables-ascend}
use Rattle.team_state.proofs.state.TeamState.tables_ascend.Goals as goal

pub returns : goal.returns
returns c = rw (← c.self.view_is) (tables-ascend _ c.self.invariant.ordered)
