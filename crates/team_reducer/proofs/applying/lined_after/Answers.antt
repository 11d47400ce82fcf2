use Rattle.std.proofs.Common.{◌∙◌, ap}
use Rattle.std.proofs.lemmas.Result.{IfOk-weaker}
use Rattle.team_model.specs.ActTable.{effect}
use Rattle.team_model.specs.State.{State}
use Rattle.team_reducer.proofs.Untouched.{untouched}
use Rattle.team_reducer.proofs.applying.lined_after.Goals as goal

pub returns-clause-boxes : goal.returns-clause-boxes
returns-clause-boxes c =
    let e = c.args.entry.now in
    let s = c.args.state.now in
    let after = c.in_ok-act.ensures.ok ∙ ap (λ (t : State). effect t e e.act) c.in_ok-next.ensures in
    IfOk-weaker c.take_lines.result _ _ (λ taken h. h ∙ ap (λ (t : State). t.boxes) after ∙ (untouched s e e.act).boxes) c.take_lines.ensures.boxes
