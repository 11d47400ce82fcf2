use Rattle.team_model.proofs.Shown.{show_same}
use Rattle.team_model.proofs.laws.text_is_of_set.Goals as goal

pub returns : goal.returns
returns c links others d e same = show_same links others d e same
