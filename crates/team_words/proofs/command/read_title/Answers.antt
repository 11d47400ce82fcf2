use Rattle.team_words.proofs.Titles.{read_title}
use Rattle.team_words.proofs.command.read_title.Goals as goal

pub returns : goal.returns
returns c = read_title c.args.bytes.now c.read.result c.read.ensures.exact c.read.ensures.found
