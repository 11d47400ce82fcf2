use Rattle.key_laws.proofs.Tainting.{device_clean}
use Rattle.key_laws.proofs.laws.device_keys_are_clean.Goals as goal

pub returns : goal.returns
returns c = λ t others k device live. device_clean t others k device live
