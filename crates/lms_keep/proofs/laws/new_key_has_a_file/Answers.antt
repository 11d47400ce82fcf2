use Rattle.lms_keep.proofs.NewKeys.{new_key_has_a_file}
use Rattle.lms_keep.proofs.laws.new_key_has_a_file.Goals as goal

pub returns : goal.returns
returns c = new_key_has_a_file
