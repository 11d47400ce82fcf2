use Rattle.author_commands.specs.Plain.{plain_plan}
use Rattle.author_commands.proofs.Authored.{author_is_one}
use Rattle.author_commands.proofs.Sound.{one_plan}
use Rattle.author_commands.proofs.laws.plain_is_one.Goals as goal

pub returns : goal.returns
returns c = λ file key_file act w o p h k.
    author_is_one (plain_plan act w.moment) file key_file c.team_is_found_once.ensures c.key_is_found_once.ensures (one_plan act w.moment) w o p h.1 k.1
