-- What a body has done where a file was opened: once for every kind of file.
use Rattle.std.proofs.Common.{◌≡◌, ◌∙◌, ℕ, List, Contains, Option, Some, None, IfSome, IsErrAnd, Result, Ok, Err, refl, sym, ap, subst}
use Rattle.std.specs.FinMap as fin
use Rattle.tg_outside.specs.Contents.{FileMap}
use Rattle.outcomes.specs.declared.answer.Answer.{Answer}
use Rattle.outcomes.specs.declared.stop.Stop.{Stop}
use Rattle.outcomes.specs.declared.stop.Stop.TheVariants.{Refused, Failed, Memory}
use Rattle.outcomes.specs.Steps.{World, Outcome, saying}
use Rattle.outcomes.specs.Seeing.{Contents, AreKnown}
use Rattle.outcomes.specs.Ending.{IsBodyOf, IsOne, answer_of}
use Rattle.outcomes.specs.Refusing.{Found, refuses, holds, by_found, opening, FindsBytes, FindsNone, IsFound, RefusesWith}
use Rattle.outcomes.proofs.Printing.{body_more, body_says, known_same}

module _ {X : Type 0} (Finds : Option (List ℕ) → Found X → Type 0) (name : List ℕ) (then : X → World → Outcome → Type 0) where
  known : (rest : Contents) (w : World) (old : Option FileMap) (q : Result X Stop) → IfSome old (λ m. IsFound Finds m name q) → AreKnown (record rest { files = old }) w → IsFound Finds w.files name q
  known rest w old q h is = subst (λ (f : Option FileMap). IfSome f (λ m. IsFound Finds m name q)) is.files h

  says : (stop : Stop) (w : World) → IsFound Finds w.files name (Err stop) → IfSome (answer_of (Err stop)) (λ a. opening Finds name then w (saying a.status a.text))
  says (Refused a) w h = (refuses h.0, h.1, ap (λ (n : ℕ). saying n a.text) h.2 ∙ ap (λ (t : List ℕ). saying 3 t) h.3)
  says Failed w h = tt
  says Memory w h = tt

  -- a refusal is what the opening does, whatever would follow
  pub refused : (rest : Contents) (old new : Option FileMap) (r : Result Answer Stop) (stop : Stop) → IsErrAnd r (λ e. e ≡ stop) → IfSome old (λ m. IsFound Finds m name (Err stop)) → new ≡ old
      → IsBodyOf (opening Finds name then) (record rest { files = old }) (record rest { files = new }) r
  refused rest old new (Ok a) stop e h same = absurd e
  refused rest old new (Err x) stop e h same = subst (λ (s : Stop). IsBodyOf (opening Finds name then) (record rest { files = old }) (record rest { files = new }) (Err s)) (sym e)
      (body_says (opening Finds name then) (record rest { files = old }) (record rest { files = new }) (Err stop) (λ w is. known_same rest w old new same is)
      (λ w is. says stop w (known rest w old (Err stop) h is)))

  -- it was opened, and the body of what follows, which may change other contents too, is the body of the whole
  pub goes_on : (rest new : Contents) (old mid : Option FileMap) (r : Result Answer Stop) (x : X) → IfSome old (λ m. IsFound Finds m name (Ok x)) → mid ≡ old
      → IsBodyOf (then x) (record rest { files = mid }) new r → IsBodyOf (opening Finds name then) (record rest { files = old }) new r
  goes_on rest new old mid r x h same body = body_more (then x) (opening Finds name then) (record rest { files = old }) (record rest { files = mid }) new r
      (λ w is. (known_same rest w old mid same is, λ o d. (holds x, known rest w old (Ok x) h is, d))) body

  -- there is one outcome, where one thing is found and one is done with it
  pub opening_is_one : ((f : Option (List ℕ)) (x y : Found X) → Finds f x → Finds f y → x ≡ y) → ((f : Option (List ℕ)) (x : X) → Finds f (holds x) → IsOne (then x))
      → IsOne (opening Finds name then)
  opening_is_one once one w o p h k = both k.0 k.1 (subst (λ (x : Found X). by_found name then x w o) (once (fin.get w.files name) h.0 k.0 h.1 k.1) h.2) k.2
    where
      both : (x : Found X) → Finds (fin.get w.files name) x → by_found name then x w o → by_found name then x w p → o ≡ p
      both (refuses word) found h k = h ∙ sym k
      both (holds x) found h k = one (fin.get w.files name) x found w o p h k

-- one thing is found of a file that must be there
pub bytes_found_once : (f : Option (List ℕ)) (x y : Found (List ℕ)) → FindsBytes f x → FindsBytes f y → x ≡ y
bytes_found_once None (refuses a) (refuses b) h k = ap refuses (h ∙ sym k)
bytes_found_once None (refuses a) (holds b) h k = absurd k
bytes_found_once None (holds a) y h k = absurd h
bytes_found_once (Some t) (refuses a) y h k = absurd h
bytes_found_once (Some t) (holds a) (refuses b) h k = absurd k
bytes_found_once (Some t) (holds a) (holds b) h k = ap holds (h ∙ sym k)

-- one thing is found of a file that must be absent
pub none_found_once : (f : Option (List ℕ)) (x y : Found (Unit {0})) → FindsNone f x → FindsNone f y → x ≡ y
none_found_once None (refuses a) y h k = absurd h
none_found_once None (holds a) (refuses b) h k = absurd k
none_found_once None (holds a) (holds b) h k = refl
none_found_once (Some t) (refuses a) (refuses b) h k = ap refuses (h ∙ sym k)
none_found_once (Some t) (refuses a) (holds b) h k = absurd k
none_found_once (Some t) (holds a) y h k = absurd h

-- an opener's refusal has a status that the body may answer
pub refusal_among : (T : Type 0) (statuses : List ℕ) (n : ℕ) (r : Result Answer Stop) (stop : Stop) → Contains statuses n → IsErrAnd r (λ e. e ≡ stop) → RefusesWith {T = T} n (Err stop)
    → IfSome (answer_of r) (λ a. Contains statuses a.status)
refusal_among T statuses n (Ok a) stop among e h = absurd e
refusal_among T statuses n (Err x) stop among e h = subst (λ (s : Stop). IfSome (answer_of (Err s)) (λ a. Contains statuses a.status)) (sym e) (of stop h)
  where
    of : (s : Stop) → RefusesWith {T = T} n (Err s) → IfSome (answer_of (Err s)) (λ a. Contains statuses a.status)
    of (Refused a) h = subst (λ (m : ℕ). Contains statuses m) (sym h) among
    of Failed h = tt
    of Memory h = tt
