use Rattle.std.proofs.Common.{◌∙◌, sym}
use Rattle.team_model.specs.ActTable.{effect}
use Rattle.team_reducer.proofs.Untouched.{lined-quiet}
use Rattle.team_reducer.proofs.applying.act_with_lines.Goals as goal

pub returns-then-has_no_lines-clause-ok : goal.returns-then-has_no_lines-clause-ok
returns-then-has_no_lines-clause-ok c =
    let e = c.args.entry.now in
    rw (lined-quiet (effect c.args.state.now e e.act) e (sym c.has_no_lines.ensures ∙ c.if-has_no_lines.true)) c.act.ensures.ok
