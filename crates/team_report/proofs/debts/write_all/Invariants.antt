use Rattle.std.proofs.Common.{◌≡◌, ◌++◌, flat_map, take}
use Rattle.team_model.specs.ShowText.{debt_line}
use Rattle.team_report.proofs.debts.write_all.Given as goal

abbrev pub invariant-loop-debt : goal.invariant-loop-debt
invariant-loop-debt l = l.out ≡ l.fn.out ++ flat_map debt_line (take l.debt-index l.debts)
