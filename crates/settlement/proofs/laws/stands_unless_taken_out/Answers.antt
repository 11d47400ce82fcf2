use Rattle.settlement.proofs.Seniors.{stands-unless}
use Rattle.settlement.proofs.laws.stands_unless_taken_out.Goals as goal

pub returns : goal.returns
returns g c senior strikes = stands-unless senior strikes
