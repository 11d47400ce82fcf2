use Rattle.std.proofs.Common.{◌∙◌, add-one, sym}
use Rattle.team_state.proofs.Placed.{total_is, without-split}
use Rattle.team_state.proofs.rows.drop_row.Goals as goal

pub remove-requires : goal.remove-requires
remove-requires g c = rw c.as_slice.ensures.len at c.in-Ok.ensures.within

pub returns-in-Ok : goal.returns-in-Ok
returns-in-Ok g c =
    let laws = g.met.T.Row in
    let total = total_is g.T.Key.Ord.cmp g.T.Row.order laws.order_is g.met.T.Key.Ord.total in
    let split = rw (c.as_slice.ensures.value, add-one) at c.in-Ok.ensures.found c.remove.result in
    c.remove.ensures.items ∙ sym (without-split g.T.Row.order g.T.Row.same g.T.Row.key_of total laws.ties c.args.key.now c.args.rows.now.items _ _ _ split)

pub returns-in_default : goal.returns-in_default
returns-in_default g c =
    let laws = g.met.T.Row in
    let total = total_is g.T.Key.Ord.cmp g.T.Row.order laws.order_is g.met.T.Key.Ord.total in
    let split = rw c.as_slice.ensures.value at c.in_default.ensures.absent in
    split.is ∙ sym (without-split g.T.Row.order g.T.Row.same g.T.Row.key_of total laws.ties c.args.key.now c.args.rows.now.items _ _ _ split)
