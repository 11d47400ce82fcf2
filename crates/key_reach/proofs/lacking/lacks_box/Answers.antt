use Rattle.std.proofs.Common.{◌∙◌, not, ap}
use Rattle.key_reach.proofs.Boxed.{boxed-is}
use Rattle.key_reach.proofs.lacking.lacks_box.Goals as goal

pub returns-then-is_planned : goal.returns-then-is_planned
returns-then-is_planned g c =
    let boxes = (g.V.KeyTable.table c.args.view.now).boxes in
    rw (← c.is_planned.ensures, c.if-is_planned.true) (ap not (c.is_known_pair.ensures ∙ c.requires.exact (c.args.to.now, c.args.of.now) ∙ boxed-is boxes c.args.to.now c.args.of.now))
