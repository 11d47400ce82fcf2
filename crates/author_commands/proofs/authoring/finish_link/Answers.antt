use Rattle.std.proofs.Common.{◌≡◌, ◌∙◌, ◌++◌, ℕ, true, List, sym, ap, subst}
use Rattle.lms_tree.specs.Verifying.{verifies}
use Rattle.lms_keep.specs.declared.key_state.KeyState.{KeyState}
use Rattle.link_text.specs.Drafts.{draft_body}
use Rattle.link_text.specs.LinkText.{IsValid, sign_line, text}
use Rattle.link_text.specs.declared.draft.Draft.{Draft}
use Rattle.link_graph.specs.Held.{Held}
use Rattle.author_commands.specs.Signing.{authored}
use Rattle.author_commands.specs.Taken.{MayTake}
use Rattle.author_commands.proofs.Signed.{authored_valid, may_take}
use Rattle.author_commands.proofs.authoring.finish_link.Goals as goal

pub post_link-requires : goal.post_link-requires
post_link-requires g c =
    let held : Held = c.args.replica.now in
    let s : KeyState = c.args.state.now in
    let d : Draft = c.args.draft.now in
    let signature = c.args.signature.now in
    let whole : c.as_slice.result.now ≡ text (authored d signature) =
    c.as_slice.ensures ∙ c.in_ok-text.ensures ∙ ap (λ (x : List ℕ). c.args.body.now ++ sign_line x) c.in_range.ensures.bytes ∙ ap (λ (b : List ℕ). b ++ sign_line signature) c.requires.body in
    let verified : verifies d.key (draft_body d) signature ≡ true = subst (λ (b : List ℕ). verifies d.key b signature ≡ true) c.requires.body c.requires.signed in
    record { may = subst (λ (b : List ℕ). MayTake held b) (sym whole) (may_take held s d signature c.requires.signable c.in_range.ensures.range verified) }

pub returns-clause-body : goal.returns-clause-body
returns-clause-body g c =
    let held : Held = c.args.replica.now in
    let s : KeyState = c.args.state.now in
    let d : Draft = c.args.draft.now in
    let signature = c.args.signature.now in
    let whole : c.as_slice.result.now ≡ text (authored d signature) =
    c.as_slice.ensures ∙ c.in_ok-text.ensures ∙ ap (λ (x : List ℕ). c.args.body.now ++ sign_line x) c.in_range.ensures.bytes ∙ ap (λ (b : List ℕ). b ++ sign_line signature) c.requires.body in
    let verified : verifies d.key (draft_body d) signature ≡ true = subst (λ (b : List ℕ). verifies d.key b signature ≡ true) c.requires.body c.requires.signed in
    c.post_link.ensures.body (authored d signature)
    (subst (λ (b : List ℕ). IsValid held.team b (authored d signature)) (sym whole) (authored_valid held s d signature c.requires.signable c.in_range.ensures.range verified))
