use Rattle.std.proofs.Common.{sym, subst}
use Rattle.std.specs.List.Sorted.{IsStrictlySortedBy}
use Rattle.std.proofs.lemmas.Result.{IfOk-weaker}
use Rattle.key_reach.specs.Debts.{debt_cmp}
use Rattle.key_reach.proofs.Ascending.{debts-ascend}
use Rattle.key_reach.proofs.owing.debts.Goals as goal

pub returns-clause-ascend : goal.returns-clause-ascend
returns-clause-ascend g c =
    IfOk-weaker c.list_debts.result _ _ (λ debts h. subst (IsStrictlySortedBy debt_cmp) (sym h) (debts-ascend (g.V.KeyTable.table c.args.view.now) c.in_ok-keys.ensures.ordered)) c.list_debts.ensures
