use Rattle.acts.proofs.ActLaws.{act_lacks, act_once}
use Rattle.acts.proofs.laws.acts_are_spelled_once.Goals as goal

pub returns : goal.returns
returns c = record { once = act_once; line = act_lacks }
