use Rattle.std.proofs.Common.{◌≡◌, ◌++◌, filter, map, take}
use Rattle.team_model.specs.KeyTables.{scope_of_device}
use Rattle.team_state.specs.Kept.{stays_listed}
use Rattle.team_state.proofs.writing.push_listed.Given as goal

abbrev pub invariant-loop-device : goal.invariant-loop-device
invariant-loop-device l = l.kept.items ≡ l.fn.kept.items ++ map scope_of_device (filter (stays_listed l.user) (take l.device-index l.devices))
