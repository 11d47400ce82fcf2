use Rattle.std.proofs.Common.{◌≡◌, ◌++◌, filter, take}
use Rattle.team_state.specs.Kept.{keeps_scope}
use Rattle.team_state.proofs.writing.push_kept.Given as goal

abbrev pub invariant-loop-scope : goal.invariant-loop-scope
invariant-loop-scope l = l.kept.items ≡ l.fn.kept.items ++ filter (keeps_scope l.user) (take l.scope-index l.scopes)
