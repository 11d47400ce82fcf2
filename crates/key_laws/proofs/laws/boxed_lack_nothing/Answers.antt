use Rattle.key_laws.proofs.Lacking.{boxed_nothing}
use Rattle.key_laws.proofs.laws.boxed_lack_nothing.Goals as goal

pub returns : goal.returns
returns c = λ t more fill. boxed_nothing t more fill
