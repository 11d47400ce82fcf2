use Rattle.strikes.proofs.Removals.{unless-struck, where-standing}
use Rattle.strikes.proofs.laws.resolved_unless_struck.Goals as goal

pub returns-clause-others : goal.returns-clause-others
returns-clause-others c = λ rules links x k plain. unless-struck rules links x k plain

pub returns-clause-removals : goal.returns-clause-removals
returns-clause-removals c = λ rules links differ x k. where-standing rules links differ x k
