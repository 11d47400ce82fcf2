use Rattle.settlement.proofs.Ranks.{by-seniority}
use Rattle.settlement.proofs.laws.rank_is_by_seniority.Goals as goal

pub returns : goal.returns
returns c = by-seniority
