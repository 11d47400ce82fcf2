use Rattle.team_state.proofs.Placed.{total_is, insert-is, set-is, with-ascends}
use Rattle.team_state.proofs.rows.put_row.Goals as goal

pub index_mut-requires : goal.index_mut-requires
index_mut-requires g c = rw c.as_slice.ensures.len at c.in-Ok.ensures.within

pub insert-room-requires : goal.insert-room-requires
insert-room-requires g c = rw c.as_slice.ensures.len at c.in-Err.ensures.within

pub returns-in-Ok-clause-rows : goal.returns-in-Ok-clause-rows
returns-in-Ok-clause-rows g c =
    let laws = g.met.T.Row in
    let total = total_is g.T.Key.Ord.cmp g.T.Row.order laws.order_is g.met.T.Key.Ord.total in
    let split = rw (c.as_slice.ensures.value, c.key-key.ensures) at c.in-Ok.ensures.found c.args.row in
    let within = rw c.as_slice.ensures.value at c.in-Ok.ensures.within in
    set-is g.T.Row.order g.T.Row.same g.T.Row.key_of total laws.ties c.args.row c.args.rows.now.items c.in-Ok.place c.args.row within split

pub returns-in-Err-clause-rows : goal.returns-in-Err-clause-rows
returns-in-Err-clause-rows g c =
    let laws = g.met.T.Row in
    let total = total_is g.T.Key.Ord.cmp g.T.Row.order laws.order_is g.met.T.Key.Ord.total in
    let split = rw (c.as_slice.ensures.value, c.key-key.ensures) at c.in-Err.ensures.absent in
    insert-is g.T.Row.order g.T.Row.same g.T.Row.key_of total laws.ties
    c.args.row c.args.rows.now.items c.insert-room.new.self.items c.in-Err.place c.insert-room.result c.insert-room.ensures.items (c.insert-room.ensures.succeeds c.requires.room) split

pub returns-in-Ok-clause-ascends : goal.returns-in-Ok-clause-ascends
returns-in-Ok-clause-ascends g c =
    let laws = g.met.T.Row in
    let total = total_is g.T.Key.Ord.cmp g.T.Row.order laws.order_is g.met.T.Key.Ord.total in
    rw (returns-in-Ok-clause-rows g c) (with-ascends g.T.Row.order g.T.Row.same g.T.Row.key_of total laws.ties c.args.row c.args.rows.now.items c.requires.ascends)

pub returns-in-Err-clause-ascends : goal.returns-in-Err-clause-ascends
returns-in-Err-clause-ascends g c =
    let laws = g.met.T.Row in
    let total = total_is g.T.Key.Ord.cmp g.T.Row.order laws.order_is g.met.T.Key.Ord.total in
    rw (returns-in-Err-clause-rows g c) (with-ascends g.T.Row.order g.T.Row.same g.T.Row.key_of total laws.ties c.args.row c.args.rows.now.items c.requires.ascends)
