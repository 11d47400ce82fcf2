use Rattle.std.proofs.Common.{◌∙◌, ap}
use Rattle.team_model.specs.Writes as after
use Rattle.team_state.proofs.Written.{keys-ascend-kept, kept-device, kept-member, kept-read, live-ascend, state-read}
use Rattle.team_state.proofs.state.TeamState.put_member_and_device.Goals as goal

pub put_newcomer_rows-requires-clause-keys : goal.put_newcomer_rows-requires-clause-keys
put_newcomer_rows-requires-clause-keys c = keys-ascend-kept _ _ _ c.self.invariant

pub put_newcomer_rows-requires-clause-scopes : goal.put_newcomer_rows-requires-clause-scopes
put_newcomer_rows-requires-clause-scopes c = live-ascend _ _ _ c.self.invariant

pub invariant_of-self-2 : goal.invariant_of-self-2
invariant_of-self-2 c =
    let put = c.in_ok-put_newcomer_rows.ensures in
    rw (put.members, put.devices, put.keys, put.scopes) (kept-read _ _ _ (kept-device _ _ _ (kept-member _ _ _ c.self.invariant c.args.member) c.args.device))

pub returns-clause-ok : goal.returns-clause-ok
returns-clause-ok c =
    let put = c.in_ok-put_newcomer_rows.ensures in
    rw (put.members, put.devices, put.keys) (state-read _ _ _ (kept-device _ _ _ (kept-member _ _ _ c.self.invariant c.args.member) c.args.device))
    ∙ ap (λ s. after.with_device (after.with_member s c.args.member) c.args.device) c.self.view_is
