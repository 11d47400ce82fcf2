use Rattle.std.proofs.Common.{◌≡◌, ◌∙◌, true, Some, None, sym, rules}
use Rattle.team_sets.specs.Members.{IsIn}
use Rattle.tg_text.specs.declared.keys.KeyId.{KeyId}
use Rattle.key_reach.specs.Keys.{same_scope}
use Rattle.team_model.specs.KeyTables.{all_keys, current_key}
use Rattle.team_reducer.proofs.Fitting.{wants-absent, wants-found}
use Rattle.team_reducer.proofs.news.wants_key.Goals as goal

pub returns-in-Some : goal.returns-in-Some
returns-in-Some c =
    let s = c.args.state.now in
    let k = c.in-Some.key.now in
    let found : current_key s c.args.scope.now ≡ Some k = search rules in
    let only : (j : KeyId) → IsIn j (all_keys s) → same_scope j.scope c.args.scope.now ≡ true → current_key s c.args.scope.now ≡ Some j = λ j i h. search rules in
    c.is_among.ensures ∙ c.requires.exact k ∙ sym (wants-found s c.args.scope.now k found only)

pub returns-in-None : goal.returns-in-None
returns-in-None c =
    let found : current_key c.args.state.now c.args.scope.now ≡ None = search rules in
    sym (wants-absent c.args.state.now c.args.scope.now found)
