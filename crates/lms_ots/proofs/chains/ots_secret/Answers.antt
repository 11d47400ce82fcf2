use Rattle.std.proofs.Common.{rules}
use Rattle.lms_ots.specs.Chains.{secret}
use Rattle.lms_ots.proofs.chains.ots_secret.Goals as goal

pub returns : goal.returns
unfolding secret
returns c = search rules
