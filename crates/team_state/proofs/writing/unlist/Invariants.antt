use Rattle.std.proofs.Common.{◌≡◌, ◌++◌, drop, map, take}
use Rattle.team_model.specs.Writes.{unlist_of}
use Rattle.team_state.proofs.writing.unlist.Given as goal

abbrev pub invariant-loop-device : goal.invariant-loop-device
invariant-loop-device l = l.devices ≡ map (unlist_of l.user) (take l.device-index l.fn.devices) ++ drop l.device-index l.fn.devices
