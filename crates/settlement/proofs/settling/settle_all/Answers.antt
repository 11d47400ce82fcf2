use Rattle.std.proofs.Common.{◌∙◌}
use Rattle.std.proofs.lemmas.Result.{IfOk-weaker}
use Rattle.settlement.proofs.Pairs.{decided-alike}
use Rattle.settlement.proofs.settling.settle_all.Goals as goal

pub returns : goal.returns
returns c = IfOk-weaker c.decide_all.result _ _ (λ decisions is. is ∙ decided-alike c.args.strikes.now c.in_ok-pairs.pairs c.args.acts.now c.in_ok-pairs.ensures) c.decide_all.ensures
