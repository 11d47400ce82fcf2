use Rattle.std.proofs.Common.{[], ◌∷◌}
use Rattle.outcomes.specs.Steps.{after, puts, replace}
use Rattle.outcomes.proofs.Joining.{cut-first, cut-then}
use Rattle.outcomes.proofs.Printing.{fault_answers_nothing}
use Rattle.lms_keep.specs.KeyText.{key_text}
use Rattle.key_commands.specs.Make.{signed_body, signing_puts}
use Rattle.key_commands.proofs.Foundings.{holds_put}
use Rattle.key_commands.proofs.make.found_team.Goals as goal

pub returns-clause-done : goal.returns-clause-done
returns-clause-done g c = λ s seen w range left known text is.
    let key_file = c.args.key_file.now in
    let kept = rw (c.as_slice.ensures, text) at (c.in_ok-replace_one.ensures.done seen w is) in
    rw c.as_slice-2.ensures at (c.sign_team.ensures.done s seen (after (replace key_file (key_text s) ∷ []) w) (holds_put w key_file c.args.prepared.now.key s range left known) kept)

pub returns-clause-cut : goal.returns-clause-cut
returns-clause-cut g c = λ s seen w range left known text is.
    let key_file = c.args.key_file.now in
    let kept = rw (c.as_slice.ensures, text) at (c.in_ok-replace_one.ensures.done seen w is) in
    let body = c.args.prepared.now.body in
    cut-then (replace key_file (key_text s) ∷ []) (puts (signing_puts c.args.file.now key_file s (signed_body s body))) w (record seen { files = g.F.Files.files c.sign_team.new.files })
    (rw c.as_slice-2.ensures at (c.sign_team.ensures.cut s seen (after (replace key_file (key_text s) ∷ []) w) (holds_put w key_file c.args.prepared.now.key s range left known) kept))

pub returns-in_err-replace_one-clause-done : goal.returns-in_err-replace_one-clause-done
returns-in_err-replace_one-clause-done g c = λ s seen w range left known text is. fault_answers_nothing _ c.in_err-replace_one.field-0.0 _ c.from_residual.ensures.1

pub returns-in_err-replace_one-clause-cut : goal.returns-in_err-replace_one-clause-cut
returns-in_err-replace_one-clause-cut g c = λ s seen w range left known text is.
    let key_file = c.args.key_file.now in
    let body = c.args.prepared.now.body in
    cut-first (replace key_file (key_text s) ∷ []) (puts (signing_puts c.args.file.now key_file s (signed_body s body))) w (record seen { files = g.F.Files.files c.replace_one.new.files })
    (rw (c.as_slice.ensures, text) at (c.in_err-replace_one.ensures.cut seen w is))
