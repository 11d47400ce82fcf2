use Rattle.std.proofs.Common.{◌≡◌, ◌++◌, flat_map, take}
use Rattle.team_model.specs.ShowText.{current_key_line}
use Rattle.team_report.proofs.current_keys.write_all.Given as goal

abbrev pub invariant-loop-key : goal.invariant-loop-key
invariant-loop-key l = l.out ≡ l.fn.out ++ flat_map current_key_line (take l.key-index l.keys)
