use Rattle.std.proofs.Common.{◌≡◌, [], ◌∷◌, arith, inr, refl, subst, sym}
use Rattle.outcomes.specs.Steps.{World, Outcome, after, draws}
use Rattle.outcomes.specs.Seeing.{Contents}
use Rattle.outcomes.specs.Refusing.{FindsNone, opening}
use Rattle.outcomes.proofs.Drawing.{acting_drawn}
use Rattle.outcomes.proofs.Joining.{cut-all}
use Rattle.outcomes.proofs.Opened.{goes_on, refusal_among, refused}
use Rattle.outcomes.proofs.Printing.{body_fails, body_works}
use Rattle.tg_outside.specs.declared.fault.Fault.TheVariants as fault
use Rattle.lms_keep.specs.declared.key_state.KeyState.{KeyState}
use Rattle.key_commands.specs.Make.{founding, founding_puts, make_text, making_team, root_puts, signed_body, signed_link, team_told}
use Rattle.key_commands.specs.Newkey.{drawn_key}
use Rattle.lms_keep.specs.KeyText.{IsKeyState}
use Rattle.outcomes.proofs.Printing.{fault_answers_nothing}
use Rattle.key_commands.proofs.Left.{any_answer, refusal_not_zero}
use Rattle.key_commands.proofs.Foundings.{at_moment, founds}
use Rattle.key_commands.proofs.make.answer_make.Goals as goal

pub returns-in_err-must_be_absent-clause-status : goal.returns-in_err-must_be_absent-clause-status
returns-in_err-must_be_absent-clause-status g c =
    refusal_among (Unit {0}) (0 ∷ 3 ∷ []) 3 _ c.in_err-must_be_absent.field-0.0 (1, omega arith, refl) c.from_residual.ensures.1 c.in_err-must_be_absent.ensures.refused

pub returns-in_err-must_be_absent-2-clause-status : goal.returns-in_err-must_be_absent-2-clause-status
returns-in_err-must_be_absent-2-clause-status g c =
    refusal_among (Unit {0}) (0 ∷ 3 ∷ []) 3 _ c.in_err-must_be_absent-2.field-0.0 (1, omega arith, refl) c.from_residual-in_err-must_be_absent-2.ensures.1 c.in_err-must_be_absent-2.ensures.refused

pub returns-in_err-must_be_absent-2-clause-body : goal.returns-in_err-must_be_absent-2-clause-body
returns-in_err-must_be_absent-2-clause-body g c = λ rest told.
    let founder = c.args.founder in
    let file = c.args.file.now in
    let key_file = c.args.key_file.now in
    let public_of = g.K.Sealer.public in
    let does = λ (w : World) (o : Outcome). o ≡ making_team public_of file key_file founder.title w.moment (drawn_key founder.user w) in
    let here : Contents = record rest { draws = g.E.Entropy.left c.args.entropy.now } in
    goes_on FindsNone file (λ none. opening FindsNone key_file (λ none. does)) here (record here { files = g.F.Files.files c.must_be_absent-2.new.files }) _ _ _ _
    c.in_ok-must_be_absent.ensures.opened c.in_ok-must_be_absent.ensures.same
    (refused FindsNone key_file (λ none. does) here _ _ _ c.in_err-must_be_absent-2.field-0.0 c.from_residual-in_err-must_be_absent-2.ensures.1
    c.in_err-must_be_absent-2.ensures.opened c.in_err-must_be_absent-2.ensures.same)

pub returns-in_err-state-clause-body : goal.returns-in_err-state-clause-body
returns-in_err-state-clause-body g c = λ rest told.
    let founder = c.args.founder in
    let file = c.args.file.now in
    let key_file = c.args.key_file.now in
    let public_of = g.K.Sealer.public in
    let does = λ (w : World) (o : Outcome). o ≡ making_team public_of file key_file founder.title w.moment (drawn_key founder.user w) in
    let here : Contents = record rest { draws = g.E.Entropy.left c.args.entropy.now } in
    let absent : Contents = record rest { files = g.F.Files.files c.must_be_absent-2.new.files } in
    let now : Contents = record absent { draws = g.E.Entropy.left c.draw_key.new.entropy } in
    goes_on FindsNone file (λ none. opening FindsNone key_file (λ none. does)) here now _ _ _ _ c.in_ok-must_be_absent.ensures.opened c.in_ok-must_be_absent.ensures.same
    (goes_on FindsNone key_file (λ none. does) here now _ _ _ _ c.in_ok-must_be_absent-2.ensures.opened c.in_ok-must_be_absent-2.ensures.same
    (body_fails does _ _ _ c.in_err-state.field-0.0 c.from_residual-in_err-state.ensures.1
    (λ w is. let s = drawn_key founder.user w in let root = signed_link s (founding public_of s founder.title w.moment) in
    inr (making_team public_of file key_file founder.title w.moment s, refl, acting_drawn 0 3 (founding_puts file key_file s root) (make_text root) w now (c.in_err-state.ensures.cut absent w is)))))

pub returns-in_err-prepared-clause-body : goal.returns-in_err-prepared-clause-body
returns-in_err-prepared-clause-body g c = λ rest told.
    let founder = c.args.founder in
    let file = c.args.file.now in
    let key_file = c.args.key_file.now in
    let public_of = g.K.Sealer.public in
    let does = λ (w : World) (o : Outcome). o ≡ making_team public_of file key_file founder.title w.moment (drawn_key founder.user w) in
    let here : Contents = record rest { draws = g.E.Entropy.left c.args.entropy.now } in
    let absent : Contents = record rest { files = g.F.Files.files c.must_be_absent-2.new.files } in
    let now : Contents = record absent { draws = g.E.Entropy.left c.draw_key.new.entropy } in
    goes_on FindsNone file (λ none. opening FindsNone key_file (λ none. does)) here now _ _ _ _ c.in_ok-must_be_absent.ensures.opened c.in_ok-must_be_absent.ensures.same
    (goes_on FindsNone key_file (λ none. does) here now _ _ _ _ c.in_ok-must_be_absent-2.ensures.opened c.in_ok-must_be_absent-2.ensures.same
    (body_fails does _ _ _ fault.Memory c.from_residual-in_err-prepared.ensures.1
    (λ w is. let s = drawn_key founder.user w in let root = signed_link s (founding public_of s founder.title w.moment) in
    inr (
      making_team public_of file key_file founder.title w.moment s,
      refl,
      acting_drawn 0 3 (founding_puts file key_file s root) (make_text root) w now (cut-all (draws 3) w now (c.in_ok-state.ensures.done absent w is).1),
    ))))

pub returns-clause-body : goal.returns-clause-body
returns-clause-body g c = λ rest told.
    let founder = c.args.founder in
    let file = c.args.file.now in
    let key_file = c.args.key_file.now in
    let public_of = g.K.Sealer.public in
    let s : KeyState = c.in_ok-state.state in
    let prepared = c.in_ok-prepared.prepared in
    let does = λ (w : World) (o : Outcome). o ≡ making_team public_of file key_file founder.title w.moment (drawn_key founder.user w) in
    let here : Contents = record rest { draws = g.E.Entropy.left c.args.entropy.now } in
    let absent : Contents = record rest { files = g.F.Files.files c.must_be_absent-2.new.files } in
    let drew : Contents = record rest { draws = g.E.Entropy.left c.draw_key.new.entropy } in
    let now : Contents = record drew { files = g.F.Files.files c.found_team.new.files } in
    goes_on FindsNone file (λ none. opening FindsNone key_file (λ none. does)) here now _ _ _ _ c.in_ok-must_be_absent.ensures.opened c.in_ok-must_be_absent.ensures.same
    (goes_on FindsNone key_file (λ none. does) here now _ _ _ _ c.in_ok-must_be_absent-2.ensures.opened c.in_ok-must_be_absent-2.ensures.same
    (body_works does _ _ c.found_team.result 0 3 (root_puts file key_file s prepared.body) (team_told (signed_body s prepared.body))
    (λ w is. let done = c.in_ok-state.ensures.done absent w is in (
      founds public_of file key_file founder.user founder.title founder.time s prepared.body c.in_ok-prepared.ensures.body w done.0 (at_moment founder.time rest.moment w.moment told is.moment),
      c.found_team.ensures.done s drew (after (draws 3) w) (c.in_ok-state.ensures.range c.requires) c.in_ok-state.ensures.fresh (sym c.in_ok-prepared.ensures.key) c.in_ok-prepared.ensures.text done.1,
      c.found_team.ensures.cut s drew (after (draws 3) w) (c.in_ok-state.ensures.range c.requires) c.in_ok-state.ensures.fresh (sym c.in_ok-prepared.ensures.key) c.in_ok-prepared.ensures.text done.1,
    ))))

pub returns-in_err-must_be_absent-clause-range : goal.returns-in_err-must_be_absent-clause-range
returns-in_err-must_be_absent-clause-range g c = λ seen w is.
    refusal_not_zero (Unit {0}) (IsKeyState (drawn_key c.args.founder.user w)) 3 _ c.in_err-must_be_absent.field-0.0 (omega arith) c.from_residual.ensures.1 c.in_err-must_be_absent.ensures.refused

pub returns-in_err-must_be_absent-2-clause-range : goal.returns-in_err-must_be_absent-2-clause-range
returns-in_err-must_be_absent-2-clause-range g c = λ seen w is.
    refusal_not_zero (Unit {0}) (IsKeyState (drawn_key c.args.founder.user w)) 3 _ c.in_err-must_be_absent-2.field-0.0 (omega arith) c.from_residual-in_err-must_be_absent-2.ensures.1 c.in_err-must_be_absent-2.ensures.refused

pub returns-in_err-state-clause-range : goal.returns-in_err-state-clause-range
returns-in_err-state-clause-range g c = λ seen w is.
    fault_answers_nothing _ c.in_err-state.field-0.0 (λ a. a.status ≡ 0 → IsKeyState (drawn_key c.args.founder.user w)) c.from_residual-in_err-state.ensures.1

pub returns-in_err-prepared-clause-range : goal.returns-in_err-prepared-clause-range
returns-in_err-prepared-clause-range g c = λ seen w is.
    fault_answers_nothing _ fault.Memory (λ a. a.status ≡ 0 → IsKeyState (drawn_key c.args.founder.user w)) c.from_residual-in_err-prepared.ensures.1

pub returns-clause-range : goal.returns-clause-range
returns-clause-range g c = λ seen w is.
    any_answer _ (IsKeyState (drawn_key c.args.founder.user w))
    (subst (λ (k : KeyState). IsKeyState k) (c.in_ok-state.ensures.done seen w is).0 (c.in_ok-state.ensures.range c.requires))
