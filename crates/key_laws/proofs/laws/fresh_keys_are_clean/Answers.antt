use Rattle.key_laws.proofs.Tainting.{fresh_clean}
use Rattle.key_laws.proofs.laws.fresh_keys_are_clean.Goals as goal

pub returns : goal.returns
returns c = λ t k other none. fresh_clean t k other none
