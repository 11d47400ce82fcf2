use Rattle.std.proofs.lemmas.Bool.{false≢true}
use Rattle.std.proofs.Common.{◌∙◌, sym}
use Rattle.team_state.proofs.Placed.{has-absent, set-is, total_is}
use Rattle.team_state.proofs.rows.replace_row.Goals as goal

pub index_mut-requires : goal.index_mut-requires
index_mut-requires g c = rw c.as_slice.ensures.len at c.in-Ok.ensures.within

pub returns-in-Ok : goal.returns-in-Ok
returns-in-Ok g c =
    let laws = g.met.T.Row in
    let total = total_is g.T.Key.Ord.cmp g.T.Row.order laws.order_is g.met.T.Key.Ord.total in
    let split = rw (c.as_slice.ensures.value, c.key-key.ensures) at c.in-Ok.ensures.found c.args.row in
    let within = rw c.as_slice.ensures.value at c.in-Ok.ensures.within in
    set-is g.T.Row.order g.T.Row.same g.T.Row.key_of total laws.ties c.args.row c.args.rows.now.items c.in-Ok.place c.args.row within split

pub returns-in_default : goal.returns-in_default
returns-in_default g c =
    let laws = g.met.T.Row in
    let total = total_is g.T.Key.Ord.cmp g.T.Row.order laws.order_is g.met.T.Key.Ord.total in
    let split = rw (c.as_slice.ensures.value, c.key-key.ensures) at c.in_default.ensures.absent in
    absurd (false≢true (sym (has-absent g.T.Row.order g.T.Row.same g.T.Row.key_of total laws.ties (g.T.Row.key_of c.args.row) c.args.rows.now.items _ _ split) ∙ c.requires.there))
