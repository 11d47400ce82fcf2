use Rattle.std.proofs.Common.{◌≡◌, ◌++◌, flat_map, take}
use Rattle.team_report.specs.HeadsText.{head_line}
use Rattle.team_report.proofs.heads.write_heads.Given as goal

abbrev pub invariant-loop-name : goal.invariant-loop-name
invariant-loop-name l = l.out ≡ l.fn.out ++ flat_map head_line (take l.name-index l.heads)
