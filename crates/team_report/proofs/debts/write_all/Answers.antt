use Rattle.team_model.specs.ShowText.{debt_line}
use Rattle.team_report.proofs.Writing.{more_lines}
use Rattle.team_report.proofs.debts.write_all.Goals as goal

pub loop-debt-preserved : goal.loop-debt-preserved
loop-debt-preserved c =
    more_lines debt_line c.args.debts.now c.loop-debt.debt-index c.debt-item.result c.args.out.now c.loop-debt.out c.write_debt.new.out
    c.loop-debt-test.true c.debt-item.is c.loop-debt.invariant c.in_ok-write_debt.ensures
