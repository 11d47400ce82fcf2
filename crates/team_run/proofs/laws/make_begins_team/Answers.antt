use Rattle.team_run.proofs.Begun.{make_begins}
use Rattle.team_run.proofs.laws.make_begins_team.Goals as goal

pub returns : goal.returns
returns c = make_begins c.made_is_held.ensures c.new_key_has_a_file.ensures
