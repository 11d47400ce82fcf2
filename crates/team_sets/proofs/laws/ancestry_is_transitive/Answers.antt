use Rattle.team_sets.proofs.Ancestors.{transitive}
use Rattle.team_sets.proofs.laws.ancestry_is_transitive.Goals as goal

pub returns : goal.returns
returns g c name prev links differ x y k j a e f = transitive name prev links differ x y k j a e f
