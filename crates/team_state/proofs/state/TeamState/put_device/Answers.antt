use Rattle.std.proofs.Common.{◌∙◌, ap}
use Rattle.team_model.specs.Writes as after
use Rattle.team_state.proofs.Written.{keys-ascend-kept, kept-device, kept-read, live-ascend, state-read}
use Rattle.team_state.proofs.state.TeamState.put_device.Goals as goal

pub put_device_rows-requires-clause-keys : goal.put_device_rows-requires-clause-keys
put_device_rows-requires-clause-keys c = keys-ascend-kept _ _ _ c.self.invariant

pub put_device_rows-requires-clause-scopes : goal.put_device_rows-requires-clause-scopes
put_device_rows-requires-clause-scopes c = live-ascend _ _ _ c.self.invariant

pub invariant_of-self-2 : goal.invariant_of-self-2
invariant_of-self-2 c =
    let put = c.in_ok-put_device_rows.ensures in
    rw (put.devices, put.keys, put.scopes) (kept-read _ _ _ (kept-device _ _ _ c.self.invariant c.args.device))

pub returns-clause-ok : goal.returns-clause-ok
returns-clause-ok c =
    let put = c.in_ok-put_device_rows.ensures in
    rw (put.devices, put.keys) (state-read _ _ _ (kept-device _ _ _ c.self.invariant c.args.device)) ∙ ap (λ s. after.with_device s c.args.device) c.self.view_is
