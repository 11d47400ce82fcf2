use Rattle.team_reducer.specs.Sound.{made_by}
use Rattle.team_reducer.proofs.Sounding.{manned, states_sound}
use Rattle.team_reducer.proofs.laws.states_are_sound.Goals as goal

pub returns-clause-sound : goal.returns-clause-sound
returns-clause-sound c entries = states_sound entries

pub returns-clause-manned : goal.returns-clause-manned
returns-clause-manned c entries = manned (made_by entries) (states_sound entries)
