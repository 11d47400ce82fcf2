use Rattle.std.proofs.Common.{◌∙◌}
use Rattle.team_state.proofs.Found.{any_scopes}
use Rattle.team_state.proofs.looking.has_scope.Goals as goal

pub returns : goal.returns
returns c = c.has_row.ensures ∙ any_scopes c.args.scopes.now c.args.scope.now
