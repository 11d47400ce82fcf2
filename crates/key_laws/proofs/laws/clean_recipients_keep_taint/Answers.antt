use Rattle.key_laws.proofs.Tainting.{keep_taint}
use Rattle.key_laws.proofs.laws.clean_recipients_keep_taint.Goals as goal

pub returns : goal.returns
returns c = λ t more clean k. keep_taint t more clean k
