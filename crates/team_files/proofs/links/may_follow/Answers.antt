use Rattle.team_files.proofs.Runs.{stands-follows}
use Rattle.team_files.proofs.links.may_follow.Goals as goal

pub returns : goal.returns
returns c = stands-follows c.args.links.now c.args.link.now c.may_stand.result (rw c.last_name.ensures at c.may_stand.ensures)
