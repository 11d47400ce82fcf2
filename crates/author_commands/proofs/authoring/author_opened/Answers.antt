use Rattle.std.proofs.Common.{Err, refl, subst}
use Rattle.lms_keep.specs.declared.key_state.KeyState.{KeyState}
use Rattle.link_graph.specs.Held.{Held}
use Rattle.outcomes.specs.Ending.{IsBodyOf}
use Rattle.outcomes.specs.Seeing.{WithFiles}
use Rattle.author_commands.specs.Authoring.{by_plan, planning}
use Rattle.author_commands.specs.declared.planner.Planned.TheVariants.{Refuses, Writes}
use Rattle.author_commands.proofs.Authored.{goes_on_planned, lacks_memory, refused_among, refused_unfailed, refuses_so}
use Rattle.author_commands.proofs.authoring.author_opened.Goals as goal

pub returns-in_err-key-clause-body : goal.returns-in_err-key-clause-body
returns-in_err-key-clause-body g c =
    lacks_memory (planning (g.P.Planner.plans c.args.planner.now) c.args.file.now c.args.key_file.now c.args.graph c.args.state.now) _ _ c.from_residual-in_err-key.ensures.1

pub returns-in_err-refusal-clause-body : goal.returns-in_err-refusal-clause-body
returns-in_err-refusal-clause-body g c =
    lacks_memory (planning (g.P.Planner.plans c.args.planner.now) c.args.file.now c.args.key_file.now c.args.graph c.args.state.now) _ _ c.from_residual-in_err-refusal.ensures.1

pub returns-in-Refuses-clause-body : goal.returns-in-Refuses-clause-body
returns-in-Refuses-clause-body g c =
    let plans = g.P.Planner.plans c.args.planner.now in
    let held : Held = c.in_ok-replica.replica in
    let s : KeyState = c.args.state.now in
    let file = c.args.file.now in
    let key_file = c.args.key_file.now in
    let refusal = c.in-Refuses.refusal in
    subst (λ (h : Held). WithFiles (g.F.Files.files c.args.files.now) (g.F.Files.files c.args.files.now) (λ old new. IsBodyOf (planning plans file key_file h s) old new (Err c.refuse.result))) c.in_ok-replica.ensures
    (goes_on_planned plans file key_file _ _ (Err c.refuse.result) held s (Refuses refusal) (rw c.in-Refuses.is at c.in_ok-refusal.ensures.plans)
    (refuses_so (by_plan file key_file held s (Refuses refusal)) _ _ refusal c.refuse.result c.refuse.ensures refl (λ w. refl)))

pub returns-in-Refuses-clause-cause : goal.returns-in-Refuses-clause-cause
returns-in-Refuses-clause-cause g c = refused_unfailed c.in-Refuses.refusal c.refuse.result c.refuse.ensures _

pub returns-in-Refuses-clause-status : goal.returns-in-Refuses-clause-status
returns-in-Refuses-clause-status g c = refused_among c.in-Refuses.refusal c.refuse.result c.refuse.ensures

pub returns-clause-body : goal.returns-clause-body
returns-clause-body g c =
    let plans = g.P.Planner.plans c.args.planner.now in
    let held : Held = c.in_ok-replica.replica in
    let s : KeyState = c.args.state.now in
    let file = c.args.file.now in
    let key_file = c.args.key_file.now in
    subst (λ (h : Held). WithFiles (g.F.Files.files c.args.files.now) (g.F.Files.files c.sign_and_post.new.files) (λ old new. IsBodyOf (planning plans file key_file h s) old new c.sign_and_post.result)) c.in_ok-replica.ensures
    (goes_on_planned plans file key_file _ _ c.sign_and_post.result held s (Writes c.in-Writes.draft) (rw c.in-Writes.is at c.in_ok-refusal.ensures.plans) c.sign_and_post.ensures.body)
