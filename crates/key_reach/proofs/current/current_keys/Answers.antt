use Rattle.std.proofs.Common.{◌∙◌}
use Rattle.std.proofs.lemmas.Result.{IfOk-weaker}
use Rattle.key_reach.specs.Laws.{IsOrdered}
use Rattle.key_reach.proofs.Currents.{current-keys-are}
use Rattle.key_reach.proofs.current.current_keys.Goals as goal

pub live_keys-requires : goal.live_keys-requires
live_keys-requires g c = rw c.scopes.ensures.scopes c.scopes.ensures.ascend

pub returns-clause-keys : goal.returns-clause-keys
returns-clause-keys g c =
    let t = g.V.KeyTable.table c.args.view.now in
    let law : IsOrdered t = record { ascends = c.scopes.ensures.ascend; one_each = c.currents.ensures.one_each } in
    let list = rw c.currents.ensures.currents at c.in_ok-known.ensures in
    let live = rw (c.as_slice.ensures.value, c.scopes.ensures.scopes) at c.live_keys.ensures in
    IfOk-weaker c.live_keys.result _ _ (λ keys h. h ∙ current-keys-are t law c.in_ok-known.known.items list) live
