use Rattle.std.proofs.Common.{◌≡◌, ◌∙◌, Some, subst, rules}
use Rattle.std.specs.Prelude.{option_copied}
use Rattle.team_sets.specs.Members.{IsIn}
use Rattle.team_model.specs.KeyTables.{all_keys, current_key}
use Rattle.team_model.specs.State.{State}
use Rattle.team_state.proofs.Lawful.{key-only}
use Rattle.team_state.proofs.Written.{keys-ascend-kept}
use Rattle.team_state.proofs.state.TeamState.current_key.Goals as goal

pub row_of-requires : goal.row_of-requires
row_of-requires c = rw (c.as_slice.ensures.value, c.deref.ensures) (keys-ascend-kept _ _ _ c.self.invariant)

pub returns-clause-only : goal.returns-clause-only
returns-clause-only c = λ k j h.
    let found : option_copied c.row_of.result ≡ current_key c.args.self.now c.args.scope.now = search rules in
    found ∙ subst (λ (s : State). IsIn k (all_keys s) → current_key s c.args.scope.now ≡ Some k) c.self.view_is (λ i. key-only _ c.self.invariant.ordered c.args.scope.now k i h) j
