use Rattle.team_plans.proofs.AmongDebts.{owes_as_debts}
use Rattle.team_plans.proofs.laws.owed_is_among_debts.Goals as goal

pub returns : goal.returns
returns c s e scope other = owes_as_debts s e scope other
