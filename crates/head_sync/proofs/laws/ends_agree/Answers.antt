use Rattle.head_sync.proofs.Agreeing.{ends_agree}
use Rattle.head_sync.proofs.laws.ends_agree.Goals as goal

pub returns : goal.returns
returns c = ends_agree c.link_is_spelled_once.ensures
