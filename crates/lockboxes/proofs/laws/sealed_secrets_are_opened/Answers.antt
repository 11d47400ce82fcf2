use Rattle.std.proofs.Common.{sym}
use Rattle.lockboxes.specs.Keeping.{opens}
use Rattle.lockboxes.proofs.laws.sealed_secrets_are_opened.Goals as goal

pub returns : goal.returns
returns g c = λ boxes own start b secret key is_secret is_key held bytes public reached.
    opens b key secret held reached (rw bytes (g.met.K.Sealer.opens secret key is_secret is_key)) (sym public)
