use Rattle.std.proofs.Common.{◌∙◌}
use Rattle.team_state.proofs.Placed.{has-answer, total_is}
use Rattle.team_state.proofs.looking.has_row.Goals as goal

pub returns : goal.returns
returns g c =
    let laws = g.met.T.Row in
    let total = total_is g.T.Key.Ord.cmp g.T.Row.order laws.order_is g.met.T.Key.Ord.total in
    c.is_ok.ensures.value
    ∙ has-answer g.T.Row.order g.T.Row.same g.T.Row.key_of total laws.ties c.args.key.now c.args.rows.now c.place_of.result c.place_of.ensures.within c.place_of.ensures.found c.place_of.ensures.absent
