use Rattle.team_sets.proofs.Closures.{closure-reaches}
use Rattle.key_reach.specs.Keys.{box_arrows, same_key}
use Rattle.key_reach.proofs.Equal.{key-decides}
use Rattle.key_reach.proofs.laws.reach_is_least.Goals as goal

pub returns : goal.returns
returns c boxes from k = closure-reaches same_key key-decides (box_arrows boxes) from k
