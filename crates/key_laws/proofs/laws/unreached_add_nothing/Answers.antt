use Rattle.key_laws.proofs.Reached.{unreached_nothing}
use Rattle.key_laws.proofs.laws.unreached_add_nothing.Goals as goal

pub returns : goal.returns
returns g c = λ arrows more given none x r. unreached_nothing arrows more given none x r
