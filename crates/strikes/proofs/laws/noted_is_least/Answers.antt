use Rattle.strikes.proofs.Noting.{noted-least}
use Rattle.strikes.proofs.laws.noted_is_least.Goals as goal

pub returns : goal.returns
returns c = noted-least
