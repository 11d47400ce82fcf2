use Rattle.std.proofs.Common.{◌∙◌, ap, not}
use Rattle.team_reducer.proofs.boxes.is_clean.Goals as goal

pub returns : goal.returns
returns c = ap not (c.is_among.ensures ∙ c.requires.exact c.args.key.now)
