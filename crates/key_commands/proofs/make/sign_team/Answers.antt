use Rattle.std.proofs.Common.{[], ◌∷◌, Err, Ok}
use Rattle.outcomes.specs.Steps.{after, replace}
use Rattle.lms_keep.specs.KeyText.{key_text}
use Rattle.lms_keep.specs.Signing.{advanced}
use Rattle.key_commands.proofs.Foundings.{team_cut, team_done, unsigned_cut}
use Rattle.key_commands.proofs.make.sign_team.Goals as goal

pub returns-in_err-signature-clause-cut : goal.returns-in_err-signature-clause-cut
returns-in_err-signature-clause-cut g c = λ s seen w holds is.
    unsigned_cut (g.F.Files.files c.args.files.now) (g.F.Files.files c.sign_known.new.files) c.args.file.now c.args.key_file.now c.args.key.now c.args.body.now s seen w holds is
    (Err c.in_err-signature.field-0.0) (c.in_err-signature.ensures.signs s holds.range)

pub returns-in_err-answer-clause-cut : goal.returns-in_err-answer-clause-cut
returns-in_err-answer-clause-cut g c = λ s seen w holds is.
    let old = g.F.Files.files c.args.files.now in
    let mid = g.F.Files.files c.sign_known.new.files in
    let moved = after (replace c.args.key_file.now (key_text (advanced s)) ∷ []) w in
    team_cut old mid c.args.file.now c.args.key_file.now c.args.key.now c.args.body.now s seen w holds is (g.F.Files.files c.keep_team.new.files) c.in-Some.signature
    (rw c.in-Some.is at (c.in_ok-signature.ensures.signs s holds.range))
    (λ told. rw c.as_slice.ensures at (c.in_err-answer.ensures.cut seen moved told))

pub returns-clause-done : goal.returns-clause-done
returns-clause-done g c = λ s seen w holds is.
    let old = g.F.Files.files c.args.files.now in
    let mid = g.F.Files.files c.sign_known.new.files in
    let moved = after (replace c.args.key_file.now (key_text (advanced s)) ∷ []) w in
    team_done old mid c.args.file.now c.args.key_file.now c.args.key.now c.args.body.now s seen w holds is (g.F.Files.files c.keep_team.new.files) c.in-Some.signature (Ok c.in_ok-answer.answer)
    (rw c.in-Some.is at (c.in_ok-signature.ensures.signs s holds.range))
    (rw c.as_slice.ensures at c.in_ok-answer.ensures.said)
    (λ told. rw c.as_slice.ensures at (c.in_ok-answer.ensures.done seen moved told))

pub returns-clause-cut : goal.returns-clause-cut
returns-clause-cut g c = λ s seen w holds is.
    let old = g.F.Files.files c.args.files.now in
    let mid = g.F.Files.files c.sign_known.new.files in
    let moved = after (replace c.args.key_file.now (key_text (advanced s)) ∷ []) w in
    team_cut old mid c.args.file.now c.args.key_file.now c.args.key.now c.args.body.now s seen w holds is (g.F.Files.files c.keep_team.new.files) c.in-Some.signature
    (rw c.in-Some.is at (c.in_ok-signature.ensures.signs s holds.range))
    (λ told. rw c.as_slice.ensures at (c.in_ok-answer.ensures.cut seen moved told))
