use Rattle.std.proofs.Common.{◌≤◌, ◌<◌, [], ◌∷◌, Err, arith, refl}
use Rattle.lms_keep.specs.KeyText.{leaves}
use Rattle.lms_keep.specs.declared.key_state.KeyState.{KeyState}
use Rattle.link_graph.specs.Held.{Held}
use Rattle.outcomes.specs.Refusing.{opening}
use Rattle.outcomes.proofs.Opened.{goes_on, refusal_among, refused}
use Rattle.openers.specs.Key.{FindsKey}
use Rattle.openers.specs.Team.{FindsTeam}
use Rattle.author_commands.specs.Authoring.{keyed}
use Rattle.author_commands.specs.declared.refusal.Refusal.TheVariants.{Spent}
use Rattle.author_commands.proofs.Authored.{goes_on_left, goes_on_opened, refused_among, spent}
use Rattle.author_commands.proofs.authoring.author.Goals as goal

pub returns-in_err-state-clause-body : goal.returns-in_err-state-clause-body
returns-in_err-state-clause-body g c = λ rest.
    let plans = g.P.Planner.plans c.args.planner.now in
    let file = c.args.file.now in
    let key_file = c.args.key_file.now in
    goes_on FindsTeam file (λ h. opening FindsKey key_file (λ k. keyed plans file key_file h k)) rest (record rest { files = g.F.Files.files c.open_key.new.files }) _ _ _ _
    c.in_ok-graph.ensures.opened c.in_ok-graph.ensures.same
    (refused FindsKey key_file (λ k. keyed plans file key_file c.in_ok-graph.graph k) rest _ _ _ c.in_err-state.field-0.0 c.from_residual-in_err-state.ensures.1 c.in_err-state.ensures.opened c.in_err-state.ensures.same)

pub returns-in_err-state-clause-status : goal.returns-in_err-state-clause-status
returns-in_err-state-clause-status g c =
    refusal_among KeyState (0 ∷ 3 ∷ 4 ∷ []) 3 _ c.in_err-state.field-0.0 (1, omega arith, refl) c.from_residual-in_err-state.ensures.1 c.in_err-state.ensures.refused

pub returns-then-state-leaves-clause-body : goal.returns-then-state-leaves-clause-body
returns-then-state-leaves-clause-body g c =
    let plans = g.P.Planner.plans c.args.planner.now in
    let file = c.args.file.now in
    let key_file = c.args.key_file.now in
    let held : Held = c.in_ok-graph.graph in
    let s : KeyState = c.in_ok-state.state in
    let left : s.next < leaves s.lms = rw c.leaves.ensures at c.if-state-leaves.true in
    goes_on_opened plans file key_file _ _ _ _ c.author_opened.result held s c.in_ok-graph.ensures.opened c.in_ok-graph.ensures.same c.in_ok-state.ensures.opened c.in_ok-state.ensures.same
    (goes_on_left plans file key_file held s left _ _ c.author_opened.result c.author_opened.ensures.body)

pub returns-else-state-leaves-clause-body : goal.returns-else-state-leaves-clause-body
returns-else-state-leaves-clause-body g c =
    let plans = g.P.Planner.plans c.args.planner.now in
    let file = c.args.file.now in
    let key_file = c.args.key_file.now in
    let held : Held = c.in_ok-graph.graph in
    let s : KeyState = c.in_ok-state.state in
    let none : leaves s.lms ≤ s.next = rw c.leaves.ensures at c.if-state-leaves.false in
    goes_on_opened plans file key_file _ _ _ _ (Err c.refuse.result) held s c.in_ok-graph.ensures.opened c.in_ok-graph.ensures.same c.in_ok-state.ensures.opened c.in_ok-state.ensures.same
    (spent plans file key_file held s none _ c.refuse.result c.refuse.ensures)

pub returns-else-state-leaves-clause-status : goal.returns-else-state-leaves-clause-status
returns-else-state-leaves-clause-status g c = refused_among Spent c.refuse.result c.refuse.ensures
