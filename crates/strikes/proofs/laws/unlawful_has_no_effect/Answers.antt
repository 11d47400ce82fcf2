use Rattle.strikes.proofs.Removals.{no-effect}
use Rattle.strikes.proofs.laws.unlawful_has_no_effect.Goals as goal

pub returns : goal.returns
returns c = λ rules links x r e. no-effect rules links x r e
