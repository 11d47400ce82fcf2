use Rattle.std.proofs.Common.{◌∙◌, sym}
use Rattle.replica.proofs.Pasts.{follows_one}
use Rattle.replica.proofs.judging.follows.Goals as goal

pub returns-in-len1 : goal.returns-in-len1
returns-in-len1 c = λ holds.
    follows_one c.args.graph.now.links c.args.position c.link_at.result.now c.link_at-in-len1.result.now c.as_slice.result.now c.parent-item.result c.link_at.ensures
    c.link_at-in-len1.ensures c.as_slice.ensures c.in-len1.len_at_least c.in-len1.len_below c.parent-item.is (sym c.eq.ensures ∙ holds)
