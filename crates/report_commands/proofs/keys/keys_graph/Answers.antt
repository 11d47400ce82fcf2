use Rattle.lockboxes.specs.Keeping.{Keeper}
use Rattle.report_commands.proofs.OpenedKeys.{keys_text_of}
use Rattle.report_commands.proofs.keys.keys_graph.Goals as goal

pub returns : goal.returns
returns g c =
    let keeper : Keeper = record { public_of = g.K.Sealer.public; unseal = g.K.Sealer.opened } in
    keys_text_of keeper c.in_ok-replica.replica c.args.graph c.args.state.now c.state.result.now c.device_of.result c.in_ok-key.key c.in_ok-opened.opened.items c.as_slice.result.now c.keys_text.result
    c.in_ok-replica.ensures c.state.ensures c.device_of.ensures c.in_ok-key.ensures c.as_slice.ensures.value c.in_ok-opened.ensures c.keys_text.ensures
