use Rattle.std.proofs.Common.{not, ◌∙◌, ap}
use Rattle.key_reach.proofs.GoneBack.{scopes-have}
use Rattle.key_reach.proofs.owing.is_without_key.Goals as goal

pub returns : goal.returns
returns g c = ap not (c.is_known_scope.ensures ∙ c.requires.exact c.args.scope.now ∙ scopes-have (g.V.KeyTable.table c.args._view.now).currents c.args.scope.now)
