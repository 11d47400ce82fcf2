use Rattle.link_intake.proofs.Unions.{items_union}
use Rattle.link_intake.proofs.laws.merge_is_union.Goals as goal

pub returns : goal.returns
returns c = items_union c.link_is_spelled_once.ensures
