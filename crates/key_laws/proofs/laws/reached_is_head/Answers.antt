use Rattle.key_laws.proofs.Reached.{reached_head}
use Rattle.key_laws.proofs.laws.reached_is_head.Goals as goal

pub returns : goal.returns
returns g c = λ arrows given x r. reached_head arrows given x r
