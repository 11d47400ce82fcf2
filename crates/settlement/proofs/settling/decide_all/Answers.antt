use Rattle.std.proofs.Common.{rules, ◌∙◌}
use Rattle.settlement.proofs.Pairs.{decided-more}
use Rattle.settlement.proofs.settling.decide_all.Goals as goal

pub loop-act-preserved : goal.loop-act-preserved
loop-act-preserved c =
    decided-more c.args.pairs.now c.args.acts.now c.deref.result.now _ c.loop-act.decisions.items c.push.new.self.items c.loop-act.act-index c.act-item.result c.decide.result
    (search rules) (search rules) (c.deref.ensures.value ∙ c.in_ok-stood.ensures) c.decide.ensures c.loop-act.invariant c.in_ok-push.ensures.items
