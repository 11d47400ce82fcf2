use Rattle.author_commands.proofs.Taken.{authored_taken}
use Rattle.author_commands.proofs.laws.authored_is_taken.Goals as goal

pub returns : goal.returns
returns c = authored_taken c.link_is_spelled_once.ensures
