use Rattle.strikes.proofs.Removals.{seen-kept}
use Rattle.strikes.proofs.laws.seen_is_kept.Goals as goal

pub returns : goal.returns
returns c = λ rules links differ x s k j e. seen-kept rules links differ x s k j e
