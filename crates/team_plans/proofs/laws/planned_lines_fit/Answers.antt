use Rattle.team_plans.proofs.LinesFit.{lines_fit}
use Rattle.team_plans.proofs.laws.planned_lines_fit.Goals as goal

pub returns : goal.returns
returns c entries e publics permitted plan room = lines_fit entries e publics permitted plan room
