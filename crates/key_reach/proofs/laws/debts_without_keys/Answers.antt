use Rattle.key_reach.proofs.Keyless.{debts-are}
use Rattle.key_reach.proofs.laws.debts_without_keys.Goals as goal

pub returns : goal.returns
returns c t law alone = debts-are t law alone
