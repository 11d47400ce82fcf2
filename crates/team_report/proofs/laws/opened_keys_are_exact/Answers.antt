use Rattle.team_report.proofs.KeysOnce.{opened_exact}
use Rattle.team_report.proofs.laws.opened_keys_are_exact.Goals as goal

pub returns : goal.returns
returns c = opened_exact
