use Rattle.team_sets.proofs.Sorted.{names-strict, set-apart, set-ascending}
use Rattle.team_sets.proofs.laws.names_sort.Goals as goal

pub returns : goal.returns
returns g c name links = record { strict = names-strict name; apart = set-apart name links; set = set-ascending name links }
