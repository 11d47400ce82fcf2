use Rattle.std.proofs.lemmas.List.Edits.{map_over_more}
use Rattle.team_model.specs.Writes.{unlist_of}
use Rattle.team_state.proofs.writing.unlist.Goals as goal

pub loop-device-preserved : goal.loop-device-preserved
loop-device-preserved c =
    let within = c.loop-device-test.true in
    rw (c.unlisted.ensures, ← c.device-item.is)
    (map_over_more (unlist_of c.args.user.now) c.args.devices.now c.loop-device.devices c.loop-device.device-index c.device-item.result within c.loop-device.invariant c.device-item.is)
