use Rattle.std.proofs.Common.{◌∙◌, sym, ap, List, ◌++◌, append-nil}
use Rattle.key_reach.specs.declared.debt.Debt.{Debt}
use Rattle.key_reach.proofs.GoneBack.{device-held, device-without}
use Rattle.key_reach.proofs.unreached.push_device.Goals as goal

pub returns-in_ok-push-in-Device : goal.returns-in_ok-push-in-Device
returns-in_ok-push-in-Device c =
    c.in_ok-push-in-Device.ensures.items
    ∙ ap (λ (l : List Debt). c.args.debts.now.items ++ l) (sym (device-without c.args.holding.now c.args.key.now c.args.scope.now c.in-Device.device c.in-Device.is (sym c.is_known_scope.ensures ∙ c.if-not-is_known_scope.true)))

pub returns-else-not-is_known_scope : goal.returns-else-not-is_known_scope
returns-else-not-is_known_scope c =
    sym (ap (λ (l : List Debt). c.args.debts.now.items ++ l) (device-held c.args.holding.now c.args.key.now c.args.scope.now c.in-Device.device c.in-Device.is (sym c.is_known_scope.ensures ∙ c.if-not-is_known_scope.false))
    ∙ append-nil c.args.debts.now.items)
