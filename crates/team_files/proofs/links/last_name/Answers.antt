use Rattle.team_files.proofs.Runs.{last_at}
use Rattle.team_files.proofs.links.last_name.Goals as goal

pub returns-in-len1-up : goal.returns-in-len1-up
returns-in-len1-up c = last_at c.args.links.now c.last-item.result c.in-len1-up.len_at_least c.last-item.is
