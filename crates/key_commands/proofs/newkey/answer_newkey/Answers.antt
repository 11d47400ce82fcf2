use Rattle.std.proofs.Common.{◌≡◌, [], ◌∷◌, ap, arith, inr, refl, subst}
use Rattle.outcomes.specs.Steps.{World, Outcome, acting, after, draws, put}
use Rattle.outcomes.specs.Seeing.{Contents}
use Rattle.outcomes.specs.Refusing.{FindsNone}
use Rattle.outcomes.proofs.Drawing.{acting_drawn, acting_put}
use Rattle.outcomes.proofs.Opened.{goes_on, refusal_among}
use Rattle.outcomes.proofs.Printing.{body_did, body_fails}
use Rattle.lms_keep.specs.KeyText.{key_text}
use Rattle.lms_keep.specs.declared.key_state.KeyState.{KeyState}
use Rattle.key_commands.specs.Newkey.{drawn_key, making, newkey_text}
use Rattle.lms_keep.specs.KeyText.{IsKeyState}
use Rattle.outcomes.proofs.Printing.{fault_answers_nothing}
use Rattle.key_commands.proofs.Left.{refusal_not_zero}
use Rattle.key_commands.proofs.newkey.answer_newkey.Goals as goal

pub returns-in_err-must_be_absent-clause-status : goal.returns-in_err-must_be_absent-clause-status
returns-in_err-must_be_absent-clause-status g c =
    refusal_among (Unit {0}) (0 ∷ 3 ∷ []) 3 _ c.in_err-must_be_absent.field-0.0 (1, omega arith, refl) c.from_residual.ensures.1 c.in_err-must_be_absent.ensures.refused

pub returns-in_err-state-clause-body : goal.returns-in_err-state-clause-body
returns-in_err-state-clause-body g c = λ rest.
    let name = c.args.key_file.now in
    let user = c.args.user in
    let public_of = g.K.Sealer.public in
    let does = λ (w : World) (o : Outcome). o ≡ making public_of name (drawn_key user w) in
    let absent : Contents = record rest { files = g.F.Files.files c.must_be_absent.new.files } in
    goes_on FindsNone name (λ none. does) (record rest { draws = g.E.Entropy.left c.args.entropy.now }) (record absent { draws = g.E.Entropy.left c.draw_key.new.entropy }) _ _ _ _
    c.in_ok-must_be_absent.ensures.opened c.in_ok-must_be_absent.ensures.same
    (body_fails does _ _ _ c.in_err-state.field-0.0 c.from_residual-in_err-state.ensures.1
    (λ w is. let s = drawn_key user w in
    inr (making public_of name s, refl, acting_drawn 0 3 (put name (key_text s) ∷ []) (newkey_text public_of s) w _ (c.in_err-state.ensures.cut absent w is))))

pub returns-in_err-answer-clause-body : goal.returns-in_err-answer-clause-body
returns-in_err-answer-clause-body g c = λ rest.
    let name = c.args.key_file.now in
    let user = c.args.user in
    let public_of = g.K.Sealer.public in
    let s : KeyState = c.in_ok-state.state in
    let does = λ (w : World) (o : Outcome). o ≡ making public_of name (drawn_key user w) in
    let absent : Contents = record rest { files = g.F.Files.files c.must_be_absent.new.files } in
    let drew : Contents = record rest { draws = g.E.Entropy.left c.draw_key.new.entropy } in
    goes_on FindsNone name (λ none. does) (record rest { draws = g.E.Entropy.left c.args.entropy.now }) (record drew { files = g.F.Files.files c.keep_key.new.files }) _ _ _ _
    c.in_ok-must_be_absent.ensures.opened c.in_ok-must_be_absent.ensures.same
    (body_fails does _ _ _ c.in_err-answer.field-0.0 c.from_residual-in_err-answer.ensures.1
    (λ w is. let done = c.in_ok-state.ensures.done absent w is in
    inr (
      making public_of name s,
      ap (λ (k : KeyState). making public_of name k) done.0,
      acting_put 0 3 (put name (key_text s) ∷ []) (newkey_text public_of s) w _ (c.in_err-answer.ensures.cut drew (after (draws 3) w) done.1),
    )))

pub returns-clause-body : goal.returns-clause-body
returns-clause-body g c = λ rest.
    let name = c.args.key_file.now in
    let user = c.args.user in
    let public_of = g.K.Sealer.public in
    let s : KeyState = c.in_ok-state.state in
    let does = λ (w : World) (o : Outcome). o ≡ making public_of name (drawn_key user w) in
    let absent : Contents = record rest { files = g.F.Files.files c.must_be_absent.new.files } in
    let drew : Contents = record rest { draws = g.E.Entropy.left c.draw_key.new.entropy } in
    goes_on FindsNone name (λ none. does) (record rest { draws = g.E.Entropy.left c.args.entropy.now }) (record drew { files = g.F.Files.files c.keep_key.new.files }) _ _ _ _
    c.in_ok-must_be_absent.ensures.opened c.in_ok-must_be_absent.ensures.same
    (body_did does _ _ _ 0 3 (put name (key_text s) ∷ []) (newkey_text public_of s)
    (λ w is. let done = c.in_ok-state.ensures.done absent w is in
    (ap (λ (k : KeyState). making public_of name k) done.0, c.in_ok-answer.ensures.said.0, c.in_ok-answer.ensures.said.1, c.in_ok-answer.ensures.done drew (after (draws 3) w) done.1)))

pub returns-in_err-must_be_absent-clause-range : goal.returns-in_err-must_be_absent-clause-range
returns-in_err-must_be_absent-clause-range g c = λ seen w is named.
    refusal_not_zero (Unit {0}) (IsKeyState (drawn_key c.args.user w)) 3 _ c.in_err-must_be_absent.field-0.0 (omega arith) c.from_residual.ensures.1 c.in_err-must_be_absent.ensures.refused

pub returns-in_err-state-clause-range : goal.returns-in_err-state-clause-range
returns-in_err-state-clause-range g c = λ seen w is named.
    fault_answers_nothing _ c.in_err-state.field-0.0 (λ a. a.status ≡ 0 → IsKeyState (drawn_key c.args.user w)) c.from_residual-in_err-state.ensures.1

pub returns-in_err-answer-clause-range : goal.returns-in_err-answer-clause-range
returns-in_err-answer-clause-range g c = λ seen w is named.
    fault_answers_nothing _ c.in_err-answer.field-0.0 (λ a. a.status ≡ 0 → IsKeyState (drawn_key c.args.user w)) c.from_residual-in_err-answer.ensures.1

pub returns-clause-range : goal.returns-clause-range
returns-clause-range g c = λ seen w is named ended. subst (λ (k : KeyState). IsKeyState k) (c.in_ok-state.ensures.done seen w is).0 (c.in_ok-state.ensures.range named)
