use Rattle.std.proofs.lemmas.Result.{IfOk-weaker}
use Rattle.lockboxes.specs.Keeping.{Keeper}
use Rattle.lockboxes.proofs.InOrder.{ordered_opened}
use Rattle.lockboxes.proofs.opening.open_all.Goals as goal

pub returns : goal.returns
returns g c =
    let keeper : Keeper = record { public_of = g.K.Sealer.public; unseal = g.K.Sealer.opened } in
    IfOk-weaker c.ordered_pairs.result _ _
    (λ list is. ordered_opened keeper (g.V.KeyTable.table c.args.view.now).boxes c.boxes.result.now c.args.device.now c.args.secret.now c.own_pair-own.result c.in_ok-opened.opened.keys c.as_slice.result.now list.items
    c.boxes.ensures c.own_pair-own.ensures c.as_slice.ensures.keys c.in_ok-opened.ensures is)
    c.ordered_pairs.ensures
