use Rattle.link_text.proofs.Proved.{one_link}
use Rattle.link_text.proofs.laws.link_is_spelled_once.Goals as goal

pub returns : goal.returns
returns c = one_link
