use Rattle.std.proofs.Common.{◌∙◌, ℕ, List, [], ◌∷◌, Ok, Err, ap, subst}
use Rattle.lms_tree.specs.Signatures.{signature_of}
use Rattle.lms_keep.specs.KeyText.{key_text}
use Rattle.lms_keep.specs.Signing.{advanced, tree_key}
use Rattle.lms_keep.specs.declared.key_state.KeyState.{KeyState}
use Rattle.link_text.specs.declared.draft.Draft.{Draft}
use Rattle.link_graph.specs.Held.{Held}
use Rattle.outcomes.specs.Ending.{IsBodyOf}
use Rattle.outcomes.specs.Seeing.{WithFiles}
use Rattle.outcomes.specs.Steps.{replace}
use Rattle.outcomes.specs.declared.refusing.FileWord.TheVariants.{BadKeyFile}
use Rattle.author_commands.specs.Authoring.{first, posting, signature_by}
use Rattle.author_commands.specs.Signing.{authored}
use Rattle.author_commands.proofs.Authored.{file_among, some_posting}
use Rattle.author_commands.proofs.Signings.{goes_on_signed, signing_fails}
use Rattle.author_commands.proofs.authoring.sign_and_post.Goals as goal

pub returns-in_err-signature-clause-body : goal.returns-in_err-signature-clause-body
returns-in_err-signature-clause-body g c =
    let held : Held = c.args.replica.now in
    let s : KeyState = c.args.state.now in
    let d : Draft = c.args.draft.now in
    let file = c.args.file.now in
    let link = authored d (signature_by s d) in
    signing_fails c.args.key_file.now d.key c.as_slice.result.now s c.requires.range c.requires.signable.key c.requires.leaf _ _ c.requires.bears (Err c.in_err-signature.field-0.0)
    (c.in_err-signature.ensures.signs s c.requires.range) (posting file held link) _ c.in_err-signature.field-0.0 c.from_residual-in_err-signature.ensures.1 (some_posting file held link)

pub returns-in_default-clause-status : goal.returns-in_default-clause-status
returns-in_default-clause-status g c = file_among c.args.key_file.now BadKeyFile c.refuse_file.result c.refuse_file.ensures

pub returns-clause-body : goal.returns-clause-body
returns-clause-body g c =
    let held : Held = c.args.replica.now in
    let s : KeyState = c.args.state.now in
    let d : Draft = c.args.draft.now in
    let file = c.args.file.now in
    let key_file = c.args.key_file.now in
    subst (λ (b : List ℕ). WithFiles (g.F.Files.files c.args.files.now) (g.F.Files.files c.finish_link.new.files)
    (λ old new. IsBodyOf (first (replace key_file (key_text (advanced s)) ∷ []) (posting file held (authored d (signature_of (tree_key s) s.next b)))) old new c.finish_link.result)) (c.as_slice.ensures ∙ c.in_ok-body.ensures)
    (goes_on_signed key_file d.key c.as_slice.result.now s c.requires.range c.requires.signable.key c.requires.leaf _ _ c.requires.bears _ (c.in_ok-signature.ensures.signs s c.requires.range)
    (λ (l : List ℕ). posting file held (authored d l)) _ _ c.in-Some.signature (ap Ok c.in-Some.is) (some_posting file held (authored d c.in-Some.signature)) (rw c.as_slice-3.ensures at c.finish_link.ensures.body))
