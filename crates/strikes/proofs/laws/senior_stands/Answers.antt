use Rattle.strikes.proofs.RemovalRanks.{senior-stands}
use Rattle.strikes.proofs.laws.senior_stands.Goals as goal

pub returns : goal.returns
returns c = senior-stands
