use Rattle.key_laws.proofs.Tainting.{same_taint}
use Rattle.key_laws.proofs.laws.taint_is_blind_to_other_keys.Goals as goal

pub returns : goal.returns
returns c = same_taint
