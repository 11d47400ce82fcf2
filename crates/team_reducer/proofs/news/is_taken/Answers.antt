use Rattle.std.proofs.Common.{◌∙◌, sym}
use Rattle.tg_text.specs.declared.keys.KeyId.{KeyId}
use Rattle.key_reach.specs.Keys.{same_scope}
use Rattle.team_reducer.proofs.Fitting.{any-map}
use Rattle.team_reducer.proofs.news.is_taken.Goals as goal

pub returns : goal.returns
returns c = c.has_key_of.ensures ∙ sym (any-map (same_scope c.args.scope.now) (λ (k : KeyId). k.scope) c.args.taken.now)
