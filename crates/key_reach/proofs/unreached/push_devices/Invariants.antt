use Rattle.std.proofs.Common.{◌≡◌, ◌++◌, flat_map, drop}
use Rattle.key_reach.specs.Backwards.{unreached_by}
use Rattle.key_reach.proofs.unreached.push_devices.Given as goal

abbrev pub invariant-loop-scope : goal.invariant-loop-scope
invariant-loop-scope l = l.debts.items ++ flat_map (unreached_by l.holding l.key) (drop l.scope-index l.meeting) ≡ l.fn.debts.items ++ flat_map (unreached_by l.holding l.key) l.meeting
