use Rattle.link_intake.proofs.OneResult.{items_once}
use Rattle.link_intake.proofs.laws.items_are_given_once.Goals as goal

pub returns : goal.returns
returns c = items_once c.link_is_spelled_once.ensures
