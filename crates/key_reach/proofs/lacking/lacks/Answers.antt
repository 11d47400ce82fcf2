use Rattle.std.proofs.Common.{sym, subst}
use Rattle.std.specs.List.Sorted.{IsStrictlySortedBy}
use Rattle.std.proofs.lemmas.Result.{IfOk-weaker}
use Rattle.key_reach.specs.Lists.{pair_cmp}
use Rattle.key_reach.proofs.Ascending.{lacks-ascend}
use Rattle.key_reach.proofs.lacking.lacks.Goals as goal

pub returns-clause-ascend : goal.returns-clause-ascend
returns-clause-ascend g c =
    IfOk-weaker c.list_lacks.result _ _ (λ pairs h. subst (IsStrictlySortedBy pair_cmp) (sym h) (lacks-ascend (g.V.KeyTable.table c.args.view.now) c.in_ok-clean.ensures.ordered)) c.list_lacks.ensures
