use Rattle.std.proofs.Common.{◌∙◌, Some, ap, sym}
use Rattle.team_state.proofs.Lookups.{row-absent, row-found}
use Rattle.team_state.proofs.rows.row_of.Goals as goal

pub returns-in-Ok : goal.returns-in-Ok
returns-in-Ok g c =
    ap (λ row. Some row) c.index-rows-place.is
    ∙ sym (row-found g.T.Row.order g.T.Row.same g.T.Row.key_of g.met.T.Row.ties c.args.key.now c.args.rows.now _ _ _ (c.in-Ok.ensures.found c.index-rows-place.result))

pub returns-in-Err : goal.returns-in-Err
returns-in-Err g c = sym (row-absent g.T.Row.order g.T.Row.same g.T.Row.key_of g.met.T.Row.ties c.args.key.now c.args.rows.now _ _ c.in-Err.ensures.absent)
