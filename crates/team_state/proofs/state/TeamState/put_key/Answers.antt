use Rattle.std.proofs.Common.{◌∙◌, ap}
use Rattle.team_model.specs.Writes as after
use Rattle.team_state.proofs.Written.{keys-ascend-kept, kept-key, kept-read, state-read}
use Rattle.team_state.proofs.state.TeamState.put_key.Goals as goal

pub put-requires : goal.put-requires
put-requires c = keys-ascend-kept _ _ _ c.self.invariant

pub invariant_of-self-2 : goal.invariant_of-self-2
invariant_of-self-2 c = rw c.in_ok-put.ensures.ok (kept-read _ _ _ (kept-key _ _ _ c.self.invariant c.args.key c.requires))

pub returns-clause-ok : goal.returns-clause-ok
returns-clause-ok c = rw c.in_ok-put.ensures.ok (state-read _ _ _ (kept-key _ _ _ c.self.invariant c.args.key c.requires)) ∙ ap (λ s. after.with_key s c.args.key) c.self.view_is
