use Rattle.key_commands.proofs.MadeTeams.{made_held}
use Rattle.key_commands.proofs.laws.made_is_held.Goals as goal

pub returns : goal.returns
returns c = λ public_of s title time is low titled fits sealed. made_held public_of s title time is low titled fits sealed
