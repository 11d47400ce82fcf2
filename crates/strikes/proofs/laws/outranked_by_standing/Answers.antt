use Rattle.strikes.proofs.Removals.{found-outranker}
use Rattle.strikes.proofs.laws.outranked_by_standing.Goals as goal

pub returns : goal.returns
returns c = λ rules links differ x k n e. found-outranker rules links differ x k n e
