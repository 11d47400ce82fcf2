use Rattle.key_reach.proofs.Orders.{key-order-is}
use Rattle.team_report.proofs.keys.keys_once.Goals as goal

pub returns : goal.returns
returns c = rw key-order-is at c.each_once.ensures
