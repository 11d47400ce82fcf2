-- What stands after `newkey` and `make` where they end in 0.
use Rattle.std.proofs.Common.{◌≡◌, ◌<◌, ◌^◌, ◌∙◌, ℕ, zero, suc, List, [], ◌∷◌, ◌++◌, Option, Some, None, Result, Ok, Err, IfSome, IsErrAnd, refl, sym, ap, subst, arith}
use Rattle.std.specs.FinMap as fin
use Rattle.tg_text.specs.Spelling.{IsHash, IsTitle}
use Rattle.tg_outside.specs.Contents.{FileMap}
use Rattle.lms_keep.specs.KeyText.{IsKeyState, key_text}
use Rattle.lms_keep.specs.Signing.{advanced}
use Rattle.link_text.specs.TeamFile.{file_text}
use Rattle.outcomes.specs.declared.answer.Answer.{Answer}
use Rattle.outcomes.specs.declared.put.Put.{Put}
use Rattle.outcomes.specs.declared.stop.Stop.{Stop}
use Rattle.outcomes.specs.declared.stop.Stop.TheVariants.{Refused, Failed, Memory}
use Rattle.outcomes.specs.Ending.{Runs, IsConcluded, answer_of}
use Rattle.outcomes.specs.Refusing.{Found, refuses, holds, by_found, opening, FindsNone, RefusesWith}
use Rattle.outcomes.specs.Seeing.{Contents, AreKnown}
use Rattle.outcomes.specs.Steps.{World, Outcome, acting, after, after_step, draw, draws, put, puts, write, writes}
use Rattle.outcomes.proofs.Joining.{after-append}
use Rattle.key_commands.specs.Leaving.{HasKeyFile, HasTeamFile}
use Rattle.key_commands.specs.Make.{founding, founding_puts, make_text, makes, making_team, signed_link}
use Rattle.key_commands.specs.Newkey.{drawn_key, making, newkey_text, newkeys}
use Rattle.key_commands.proofs.Foundings.{given}
use Rattle.key_commands.proofs.MadeTeams.{made_held}

-- no file changes by words that are drawn, nor by what is written
files_drawn : (n : ℕ) (w : World) → (after (draws n) w).files ≡ w.files
files_drawn zero w = refl
files_drawn (suc n) w = files_drawn n (after_step draw w)

files_written : (text : List ℕ) (w : World) → (after (writes text) w).files ≡ w.files
files_written [] w = refl
files_written (c ∷ text) w = files_written text (after_step (write c) w)

files_acted : (status n : ℕ) (all : List Put) (text : List ℕ) (w : World) → (after (acting status n all text).steps w).files ≡ (after (puts all) (after (draws n) w)).files
files_acted status n all text w =
    ap (λ (v : World). v.files) (after-append (draws n) (puts all ++ writes text) w ∙ after-append (puts all) (writes text) (after (draws n) w))
    ∙ files_written text (after (puts all) (after (draws n) w))

-- a command whose answer was printed, and that ended in 0, has an answer with that status
pub answered_zero : (t u : Option (List ℕ)) (o : Option Answer) (status : ℕ) (X : Type 0) → IsConcluded t u o status → status ≡ 0 → IfSome o (λ a. a.status ≡ 0 → X) → X
answered_zero t u None status X h z f = absurd (let high = h.0 in omega (arith, high, z))
answered_zero t u (Some a) status X h z f = f (sym (h.whole (omega (arith, z))).0 ∙ z)

-- a refusal doesn't end in 0
pub refusal_not_zero : (T : Type 0) (X : Type 0) (n : ℕ) (r : Result Answer Stop) (stop : Stop) → 0 < n → IsErrAnd r (λ e. e ≡ stop) → RefusesWith {T = T} n (Err stop)
    → IfSome (answer_of r) (λ a. a.status ≡ 0 → X)
refusal_not_zero T X n (Ok a) stop more e h = absurd e
refusal_not_zero T X n (Err x) stop more e h = subst (λ (s : Stop). IfSome (answer_of (Err s)) (λ a. a.status ≡ 0 → X)) (sym e) (of stop h)
  where
    of : (s : Stop) → RefusesWith {T = T} n (Err s) → IfSome (answer_of (Err s)) (λ a. a.status ≡ 0 → X)
    of (Refused a) h = λ z. absurd (omega (arith, more, h, z))
    of Failed h = tt
    of Memory h = tt

pub any_answer : (o : Option Answer) (X : Type 0) → X → IfSome o (λ a. a.status ≡ 0 → X)
any_answer None X x = tt
any_answer (Some a) X x = λ z. x

-- what is done where a file was opened that must be absent, and 0 is answered
opened_zero : (name : List ℕ) (then : Unit {0} → World → Outcome → Type 0) (w : World) (o : Outcome) → 0 ≡ o.status → opening FindsNone name then w o → (none : Unit {0}) × then none w o
opened_zero name then w o z does = go does.0 does.2
  where
    go : (x : Found (Unit {0})) → by_found name then x w o → (none : Unit {0}) × then none w o
    go (refuses word) e = absurd (let three : 0 ≡ 3 = z ∙ ap (λ (p : Outcome). p.status) e in omega (arith, three))
    go (holds none) e = (none, e)

pub leaves_key : (public_of : List ℕ → List ℕ) (key_file user : List ℕ) (old new : Contents) (status : ℕ) (w : World) → Runs (newkeys public_of key_file user) old new status
    → status ≡ 0 → AreKnown old w → IsKeyState (drawn_key user w) → HasKeyFile key_file new
leaves_key public_of key_file user old new status w runs ended is range =
    let done = runs.done w is (omega (arith, ended)) in
    let s = drawn_key user w in
    let all : List Put = put key_file (key_text s) ∷ [] in
    let which : done.0 ≡ making public_of key_file s = (opened_zero key_file (λ none v o. o ≡ making public_of key_file (drawn_key user v)) w done.0 (sym ended ∙ done.2) done.1).1 in
    let stands : (after done.0.steps w).files ≡ fin.insert w.files key_file (key_text s) =
    ap (λ (o : Outcome). (after o.steps w).files) which ∙ files_acted 0 3 all (newkey_text public_of s) w
    ∙ ap (λ (m : FileMap). fin.insert m key_file (key_text s)) (files_drawn 3 w) in
    (fin.insert w.files key_file (key_text s), key_text s, s, done.3.files ∙ ap (λ (m : FileMap). Some m) stands, given w.files key_file (key_text s), record { range = range; is_text = refl })

pub leaves_team : (public_of : List ℕ → List ℕ) (file key_file user title : List ℕ) (old new : Contents) (status : ℕ) (w : World) → Runs (makes public_of file key_file user title) old new status
    → status ≡ 0 → AreKnown old w → IsKeyState (drawn_key user w) → IsTitle title → w.moment < 2 ^ 64 → ((secret : List ℕ) → IsHash secret → IsHash (public_of secret)) → HasTeamFile file new
leaves_team public_of file key_file user title old new status w runs ended is range titled fits publics =
    let done = runs.done w is (omega (arith, ended)) in
    let s = drawn_key user w in
    let root = signed_link s (founding public_of s title w.moment) in
    let bytes = file_text root.name (root ∷ []) in
    let does : World → Outcome → Type 0 = λ v o. o ≡ making_team public_of file key_file title v.moment (drawn_key user v) in
    let same : 0 ≡ done.0.status = sym ended ∙ done.2 in
    let which : done.0 ≡ making_team public_of file key_file title w.moment s =
    (opened_zero key_file (λ none. does) w done.0 same (opened_zero file (λ none. opening FindsNone key_file (λ none. does)) w done.0 same done.1).1).1 in
    let last : World = after (puts (put key_file (key_text s) ∷ put key_file (key_text (advanced s)) ∷ [])) (after (draws 3) w) in
    let stands : (after done.0.steps w).files ≡ fin.insert last.files file bytes =
    ap (λ (o : Outcome). (after o.steps w).files) which ∙ files_acted 0 3 (founding_puts file key_file s root) (make_text root) w in (
      fin.insert last.files file bytes,
      bytes,
      root,
      done.3.files ∙ ap (λ (m : FileMap). Some m) stands,
      given last.files file bytes,
      made_held public_of s title w.moment range (omega arith) titled fits (publics s.secret range.secret),
    )
