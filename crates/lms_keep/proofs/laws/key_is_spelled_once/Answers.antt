use Rattle.lms_keep.proofs.KeyLaws.{key_once}
use Rattle.lms_keep.proofs.laws.key_is_spelled_once.Goals as goal

pub returns : goal.returns
returns c = key_once
