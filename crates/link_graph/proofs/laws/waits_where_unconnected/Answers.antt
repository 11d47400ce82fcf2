use Rattle.link_graph.proofs.Waits.{waits_unconnected, waits_parents}
use Rattle.link_graph.proofs.laws.waits_where_unconnected.Goals as goal

pub returns-clause-unconnected : goal.returns-clause-unconnected
returns-clause-unconnected c = waits_unconnected

pub returns-clause-parents : goal.returns-clause-parents
returns-clause-parents c = waits_parents
