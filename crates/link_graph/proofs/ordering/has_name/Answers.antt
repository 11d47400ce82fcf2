use Rattle.std.proofs.Common.{◌∙◌}
use Rattle.team_sets.proofs.Lists.{has_name-any}
use Rattle.link_graph.proofs.ordering.has_name.Goals as goal

pub returns : goal.returns
returns c = c.contains.ensures.value ∙ has_name-any c.args.names.now c.args.name.now
