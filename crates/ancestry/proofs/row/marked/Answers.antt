use Rattle.std.proofs.Common.{◌++◌, ◌∷◌, [], ◌∙◌, ap, sym, cond, false, get_or}
use Rattle.ancestry.proofs.Marks.{range-filter}
use Rattle.ancestry.proofs.row.marked.Goals as goal

pub loop-number-preserved : goal.loop-number-preserved
loop-number-preserved c =
    c.in_ok-push_if_marked.ensures
    ∙ ap (λ l. l ++ cond (get_or c.args.marks.now c.loop-number.number false) (c.loop-number.number ∷ []) []) c.loop-number.invariant
    ∙ sym (range-filter (λ i. get_or c.args.marks.now i false) c.loop-number.number)
