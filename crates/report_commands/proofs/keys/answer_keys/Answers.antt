use Rattle.std.proofs.Common.{[], ◌∷◌, arith, inl, refl}
use Rattle.tg_outside.specs.declared.fault.Fault.TheVariants as fault
use Rattle.lms_keep.specs.declared.key_state.KeyState.{KeyState}
use Rattle.link_graph.specs.Held.{Held}
use Rattle.lockboxes.specs.Keeping.{Keeper}
use Rattle.outcomes.specs.Refusing.{opening}
use Rattle.outcomes.proofs.Opened.{goes_on, refusal_among, refused}
use Rattle.outcomes.proofs.Printing.{body_fails, body_says}
use Rattle.openers.specs.Key.{FindsKey}
use Rattle.openers.specs.Team.{FindsTeam}
use Rattle.report_commands.specs.Keys.{IsKeysSaid}
use Rattle.report_commands.proofs.keys.answer_keys.Goals as goal

pub returns-in_err-state-clause-body : goal.returns-in_err-state-clause-body
returns-in_err-state-clause-body g c = λ rest.
    let keeper : Keeper = record { public_of = g.K.Sealer.public; unseal = g.K.Sealer.opened } in
    let key_file = c.args.key_file.now in
    let held : Held = c.in_ok-graph.graph in
    goes_on FindsTeam c.args.file.now (λ h. opening FindsKey key_file (λ s. IsKeysSaid keeper h s)) rest _ _ _ _ held c.in_ok-graph.ensures.opened c.in_ok-graph.ensures.same
    (refused FindsKey key_file (λ s. IsKeysSaid keeper held s) rest _ _ _ c.in_err-state.field-0.0 c.from_residual-in_err-state.ensures.1 c.in_err-state.ensures.opened c.in_err-state.ensures.same)

pub returns-in_err-state-clause-status : goal.returns-in_err-state-clause-status
returns-in_err-state-clause-status g c =
    refusal_among KeyState (0 ∷ 3 ∷ []) 3 _ c.in_err-state.field-0.0 (1, omega arith, refl) c.from_residual-in_err-state.ensures.1 c.in_err-state.ensures.refused

pub returns-in_err-text-clause-body : goal.returns-in_err-text-clause-body
returns-in_err-text-clause-body g c = λ rest.
    let keeper : Keeper = record { public_of = g.K.Sealer.public; unseal = g.K.Sealer.opened } in
    let key_file = c.args.key_file.now in
    let held : Held = c.in_ok-graph.graph in
    let state = c.in_ok-state.state in
    goes_on FindsTeam c.args.file.now (λ h. opening FindsKey key_file (λ s. IsKeysSaid keeper h s)) rest _ _ _ _ held c.in_ok-graph.ensures.opened c.in_ok-graph.ensures.same
    (goes_on FindsKey key_file (λ s. IsKeysSaid keeper held s) rest _ _ _ _ state c.in_ok-state.ensures.opened c.in_ok-state.ensures.same
    (body_fails (IsKeysSaid keeper held state) _ _ _ fault.Memory c.from_residual-in_err-text.ensures.1 (λ w is. inl is)))

pub returns-clause-body : goal.returns-clause-body
returns-clause-body g c = λ rest.
    let keeper : Keeper = record { public_of = g.K.Sealer.public; unseal = g.K.Sealer.opened } in
    let key_file = c.args.key_file.now in
    let held : Held = c.in_ok-graph.graph in
    let state = c.in_ok-state.state in
    goes_on FindsTeam c.args.file.now (λ h. opening FindsKey key_file (λ s. IsKeysSaid keeper h s)) rest _ _ _ _ held c.in_ok-graph.ensures.opened c.in_ok-graph.ensures.same
    (goes_on FindsKey key_file (λ s. IsKeysSaid keeper held s) rest _ _ _ _ state c.in_ok-state.ensures.opened c.in_ok-state.ensures.same
    (body_says (IsKeysSaid keeper held state) _ _ _ (λ w is. is) (λ w is. record { text = c.in_ok-text.text; of_keys = c.in_ok-text.ensures; said = refl })))
