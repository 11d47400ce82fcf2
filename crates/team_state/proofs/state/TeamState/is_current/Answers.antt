use Rattle.std.proofs.Common.{◌≡◌, ◌∙◌, ◌&&◌, true, ap, Some, None, sym, rules}
use Rattle.team_sets.specs.Members.{IsIn}
use Rattle.tg_text.specs.declared.keys.KeyId.{KeyId}
use Rattle.key_reach.specs.Keys.{is_live, same_scope}
use Rattle.team_model.specs.KeyTables.{all_keys, current_key, key_table}
use Rattle.team_state.proofs.Current.{current-found, current-absent}
use Rattle.team_state.proofs.state.TeamState.is_current.Goals as goal

pub returns-then-is_same_key : goal.returns-then-is_same_key
returns-then-is_same_key c =
    let s = c.args.self.now in
    let k = c.args.key.now in
    let found : current_key s k.scope ≡ Some c.in-Some.current.now = search rules in
    let only : (j : KeyId) → IsIn j (all_keys s) → same_scope j.scope k.scope ≡ true → current_key s k.scope ≡ Some j = λ j i h. search rules in
    c.live.ensures ∙ ap (λ b. b && is_live (key_table s) k.scope) (sym c.if-is_same_key.true ∙ c.is_same_key.ensures) ∙ sym (current-found s k c.in-Some.current.now found only)

pub returns-else-is_same_key : goal.returns-else-is_same_key
returns-else-is_same_key c =
    let s = c.args.self.now in
    let k = c.args.key.now in
    let found : current_key s k.scope ≡ Some c.in-Some.current.now = search rules in
    let only : (j : KeyId) → IsIn j (all_keys s) → same_scope j.scope k.scope ≡ true → current_key s k.scope ≡ Some j = λ j i h. search rules in
    c.if-is_same_key.false ∙ ap (λ b. b && is_live (key_table s) k.scope) (sym c.if-is_same_key.false ∙ c.is_same_key.ensures) ∙ sym (current-found s k c.in-Some.current.now found only)

pub returns-in-None : goal.returns-in-None
returns-in-None c =
    let s = c.args.self.now in
    let k = c.args.key.now in
    let found : current_key s k.scope ≡ None = search rules in
    sym (current-absent s k found)
