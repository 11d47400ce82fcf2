use Rattle.team_state.proofs.Ascending.{keys-ascend}
use Rattle.team_state.proofs.Lawful.{key-one-each}
use Rattle.team_state.proofs.state.TeamStateKeyTable.currents.Goals as goal

pub returns-clause-ascend : goal.returns-clause-ascend
returns-clause-ascend c = rw (← c.self.view_is) (keys-ascend _ c.self.invariant.ordered)

pub returns-clause-one_each : goal.returns-clause-one_each
returns-clause-one_each c = rw (← c.self.view_is) (key-one-each _ c.self.invariant.ordered)
