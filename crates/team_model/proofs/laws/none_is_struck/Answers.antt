use Rattle.team_model.proofs.Resolved.{none_is_struck as law}
use Rattle.team_model.proofs.laws.none_is_struck.Goals as goal

pub returns : goal.returns
returns c rules links lawful harmless = law rules links lawful harmless
