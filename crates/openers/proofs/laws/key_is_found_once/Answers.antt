use Rattle.openers.proofs.Keys.{key_found_once}
use Rattle.openers.proofs.laws.key_is_found_once.Goals as goal

pub returns : goal.returns
returns c = key_found_once c.key_is_spelled_once.ensures
