use Rattle.link_graph.proofs.Parenting.{stand-as-links}
use Rattle.link_graph.proofs.laws.positions_stand_as_links.Goals as goal

pub returns : goal.returns
returns c = stand-as-links
