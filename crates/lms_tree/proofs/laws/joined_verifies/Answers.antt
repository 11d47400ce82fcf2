use Rattle.lms_tree.proofs.Joined.{joined_verifies}
use Rattle.lms_tree.proofs.laws.joined_verifies.Goals as goal

pub returns : goal.returns
returns c = joined_verifies
