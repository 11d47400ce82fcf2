use Rattle.team_model.specs.Judging.{rules_by, fold_team, before_turn}
use Rattle.team_model.proofs.Brought.{by_listed}
use Rattle.team_model.proofs.Counting.{counting_right}
use Rattle.team_model.proofs.laws.counting_is_right.Goals as goal

pub returns-clause-exactly : goal.returns-clause-exactly
returns-clause-exactly c rules links differ x k = counting_right rules links differ x k

pub returns-clause-listed : goal.returns-clause-listed
returns-clause-listed c device_of links differ x k h =
    by_listed device_of (fold_team (rules_by device_of) (before_turn (rules_by device_of) links x)) x.entry ((counting_right (rules_by device_of) links differ x k).0 h).permitted
