use Rattle.key_reach.proofs.MetScopes.{entitled-least}
use Rattle.key_reach.proofs.laws.entitled_is_least.Goals as goal

pub returns : goal.returns
returns c t law d = entitled-least t law d
