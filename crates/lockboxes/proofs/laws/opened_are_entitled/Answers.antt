use Rattle.lockboxes.proofs.Entitled.{opened_entitled}
use Rattle.lockboxes.proofs.laws.opened_are_entitled.Goals as goal

pub returns : goal.returns
returns c = λ keeper t law device secret k s r clean. opened_entitled keeper t law device secret k s r clean
