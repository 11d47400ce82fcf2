use Rattle.std.proofs.Common.{◌∙◌, ap, filter}
use Rattle.std.specs.List.{list_any}
use Rattle.std.proofs.lemmas.Result.{IfOk-weaker}
use Rattle.team_model.specs.KeyLines.{same_line}
use Rattle.team_reducer.specs.Prints.{may_be}
use Rattle.team_reducer.proofs.Printed.{known-are}
use Rattle.team_reducer.proofs.known.known_boxes.Goals as goal

pub returns : goal.returns
returns c =
    let pairs = c.in_ok-pairs.pairs.items in
    let prints = c.in_ok-prints.prints.items in
    IfOk-weaker c.printed.result _ _
    (λ known is b k.
    ap (list_any (same_line b)) (is ∙ (λ i. filter (may_be (c.as_slice.ensures.value i) (c.as_slice-2.ensures.value i)) c.args.held.now))
    ∙ known-are c.args.lines.now c.args.held.now pairs prints c.in_ok-pairs.ensures c.in_ok-prints.ensures b k)
    c.printed.ensures
