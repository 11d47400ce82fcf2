use Rattle.team_model.proofs.FullBoxes.{full}
use Rattle.team_model.proofs.key_line_laws.worked_box_lines.Goals as goal

pub returns-clause-full : goal.returns-clause-full
returns-clause-full c s keys held line h = full s keys held line h
