use Rattle.team_model.specs.Judging.{team, team_rules}
use Rattle.team_reducer.proofs.Sounding.{manned}
use Rattle.team_reducer.proofs.SoundTeams.{teams_sound}
use Rattle.team_reducer.proofs.laws.teams_are_sound.Goals as goal

pub returns-clause-sound : goal.returns-clause-sound
returns-clause-sound c links differ = teams_sound links differ

pub returns-clause-manned : goal.returns-clause-manned
returns-clause-manned c links differ = manned (team team_rules links) (teams_sound links differ)
