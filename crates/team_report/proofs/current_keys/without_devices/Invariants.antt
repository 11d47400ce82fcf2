use Rattle.std.proofs.Common.{◌≡◌, ◌++◌, drop, filter, not}
use Rattle.key_reach.specs.Keys.{is_device}
use Rattle.team_report.proofs.current_keys.without_devices.Given as goal

abbrev pub invariant-loop-key : goal.invariant-loop-key
invariant-loop-key l = l.kept.items ++ filter (λ k. not (is_device k.scope)) (drop l.key-index l.keys) ≡ filter (λ k. not (is_device k.scope)) l.keys
