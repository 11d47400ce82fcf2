use Rattle.lms_tree.proofs.Verified.{key_has_its_parts}
use Rattle.lms_tree.proofs.laws.key_has_its_parts.Goals as goal

pub returns : goal.returns
returns c = key_has_its_parts
