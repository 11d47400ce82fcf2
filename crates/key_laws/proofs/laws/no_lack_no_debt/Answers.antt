use Rattle.key_laws.proofs.Lacking.{nothing_owed}
use Rattle.key_laws.proofs.laws.no_lack_no_debt.Goals as goal

pub returns : goal.returns
returns c = λ t all. nothing_owed t all
