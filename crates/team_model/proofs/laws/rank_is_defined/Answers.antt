use Rattle.team_model.proofs.Brought.{rank_defined, team_brings_in}
use Rattle.team_model.proofs.laws.rank_is_defined.Goals as goal

pub returns-clause-team : goal.returns-clause-team
returns-clause-team c device_of = team_brings_in device_of

pub returns-clause-defined : goal.returns-clause-defined
returns-clause-defined c rules bring links differ x k = rank_defined rules bring links differ x k
