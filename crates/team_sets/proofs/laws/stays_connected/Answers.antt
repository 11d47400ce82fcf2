use Rattle.team_sets.proofs.Connects as lemmas
use Rattle.team_sets.proofs.laws.stays_connected.Goals as goal

pub returns : goal.returns
returns g c name prev links placed x none = lemmas.stays_connected name prev links placed x none
