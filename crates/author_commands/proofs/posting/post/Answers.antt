use Rattle.std.proofs.Common.{◌≡◌, refl}
use Rattle.link_graph.specs.Held.{Held}
use Rattle.link_text.specs.TeamFile.{file_text}
use Rattle.outcomes.specs.Steps.{World, Outcome}
use Rattle.outcomes.proofs.Printing.{body_cut, body_replaced}
use Rattle.author_commands.specs.Authoring.{link_line, posted}
use Rattle.author_commands.proofs.posting.post.Goals as goal

pub returns-in_err-replace_one-clause-body : goal.returns-in_err-replace_one-clause-body
returns-in_err-replace_one-clause-body g c =
    let file = c.args.file.now in
    let held : Held = c.args.graph.now in
    let name = c.args.name.now in
    body_cut (λ (w : World) (o : Outcome). o ≡ posted file held name) _ _ _ c.in_err-replace_one.field-0.0 0 file (file_text held.team held.links) (link_line name) c.from_residual-in_err-replace_one.ensures.1
    (λ w is. refl)
    (λ rest w is. rw (c.as_slice.ensures, c.in_ok-bytes.ensures) at (c.in_err-replace_one.ensures.cut rest w is))

pub returns-clause-body : goal.returns-clause-body
returns-clause-body g c =
    let file = c.args.file.now in
    let held : Held = c.args.graph.now in
    let name = c.args.name.now in
    body_replaced (λ (w : World) (o : Outcome). o ≡ posted file held name) _ _ _ file (file_text held.team held.links)
    (λ w is. rw c.in_ok-text.ensures refl)
    (λ rest w is. rw (c.as_slice.ensures, c.in_ok-bytes.ensures) at (c.in_ok-replace_one.ensures.done rest w is))
