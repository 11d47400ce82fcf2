use Rattle.settlement.proofs.Ranks.{ranks-strict}
use Rattle.settlement.proofs.laws.ranks_are_strict.Goals as goal

pub returns : goal.returns
returns c = ranks-strict
