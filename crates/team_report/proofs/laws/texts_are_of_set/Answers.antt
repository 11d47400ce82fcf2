use Rattle.team_report.proofs.SameTexts.{texts_same}
use Rattle.team_report.proofs.laws.texts_are_of_set.Goals as goal

pub returns : goal.returns
returns c links others d e same = texts_same links others d e same (c.text_is_of_set.ensures links others d e same).means
