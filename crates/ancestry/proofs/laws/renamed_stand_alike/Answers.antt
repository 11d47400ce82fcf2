use Rattle.ancestry.proofs.Renamed.{renamed-stand-alike}
use Rattle.ancestry.proofs.laws.renamed_stand_alike.Goals as goal

pub returns : goal.returns
returns g c name prev other_name other_prev = renamed-stand-alike name prev other_name other_prev
