use Rattle.team_state.proofs.Lawful.{key-scopes-ascend}
use Rattle.team_state.proofs.state.TeamStateKeyTable.scopes.Goals as goal

pub returns-clause-ascend : goal.returns-clause-ascend
returns-clause-ascend c = rw (← c.self.view_is) (key-scopes-ascend _ c.self.invariant.ordered)
