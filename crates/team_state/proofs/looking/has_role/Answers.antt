use Rattle.std.proofs.Common.{◌∙◌}
use Rattle.team_state.proofs.Found.{any_names}
use Rattle.team_state.proofs.looking.has_role.Goals as goal

pub returns : goal.returns
returns c = c.has_row.ensures ∙ any_names c.args.roles.now c.args.role.now
