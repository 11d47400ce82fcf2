use Rattle.std.proofs.Common.{arith, rules}
use Rattle.std.proofs.lemmas.List.{take_all}
use Rattle.link_intake.proofs.Givings.{given_next, part_next}
use Rattle.link_intake.proofs.giving.give_items.Goals as goal

pub loop-item-preserved : goal.loop-item-preserved
loop-item-preserved c =
    let next = c.in_ok-give_item.ensures.given in
    rw (next.1)
    (given_next _ _ _ c.args.items.now c.loop-item.item-index c.item-item.result c.loop-item.results c.loop-item-test.true c.item-item.is next.0 c.loop-item.invariant next.2)

pub returns-in_err-give_item-clause-part : goal.returns-in_err-give_item-clause-part
returns-in_err-give_item-clause-part c =
    let part =
    part_next _ _ _ c.args.items.now c.loop-item.item-index c.item-item.result c.loop-item.results c.loop-item-test.true c.item-item.is c.loop-item.invariant
    c.in_err-give_item.ensures.part in
    search (rules, part)

pub returns-clause-given : goal.returns-clause-given
returns-clause-given c = rw (take_all c.loop-item.item-index c.args.items.now (omega arith)) at c.loop-item.invariant
