use Rattle.strikes.proofs.Removals.{found-striker}
use Rattle.strikes.proofs.laws.struck_by_standing.Goals as goal

pub returns : goal.returns
returns c = λ rules links differ x k n e. found-striker rules links differ x k n e
