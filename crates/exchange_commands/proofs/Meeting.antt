-- What the body of `meet` did, once both files are opened.
use Rattle.std.proofs.Common.{◌≡◌, ◌∙◌, ◌-◌, ◌==◌, ◌&&◌, cond, ℕ, Bool, true, false, not, [], ◌∷◌, List, Contains, IfSome, IsErrAnd, Option, Result, Ok, Err, arith, length, nat_eq, refl, sym, ap, subst}
use Rattle.std.specs.Cmp.Lexicographic.{pointwise}
use Rattle.std.proofs.lemmas.Bool.{not-false, not-true}
use Rattle.tg_outside.specs.Causes.{Rose}
use Rattle.tg_outside.specs.Contents.{FileMap}
use Rattle.tg_outside.specs.declared.fault.Fault.{Fault}
use Rattle.team_sets.specs.Names.{Name, same_name}
use Rattle.link_graph.specs.Held.{Held}
use Rattle.head_sync.specs.Meetings.{IsMet}
use Rattle.head_sync.specs.declared.meeting.Met.{Met}
use Rattle.outcomes.specs.declared.answer.Answer.{Answer}
use Rattle.outcomes.specs.declared.stop.Stop.{Stop}
use Rattle.outcomes.specs.declared.stop.Stop.TheVariants.{Refused, Failed, Memory}
use Rattle.outcomes.specs.Ending.{HasCauseOrStop, IsBodyOf, answer_of, stop_of}
use Rattle.outcomes.specs.Seeing.{AreKnown, Contents, IsCut}
use Rattle.outcomes.specs.Steps.{World, after, puts, saying}
use Rattle.outcomes.proofs.Printing.{body_did, body_says, body_works, fault_answers_nothing}
use Rattle.exchange_commands.specs.Meet.{IsOtherTeam, by_team, meeting, met, met_puts, met_status, met_text}

-- two teams differ, or are one
module _ (a b : Name) (one two : Held) (r : Bool) (is : r ≡ not (pointwise nat_eq a b)) (first : a ≡ one.team) (second : b ≡ two.team) where
  told : pointwise nat_eq a b ≡ same_name one.team two.team
  told = ap (λ (x : Name). same_name x b) first ∙ ap (λ (x : Name). same_name one.team x) second

  pub differ : r ≡ true → same_name one.team two.team ≡ false
  differ e = sym told ∙ not-true (pointwise nat_eq a b) (sym is ∙ e)

  pub agree : r ≡ false → same_name one.team two.team ≡ true
  agree e = sym told ∙ not-false (pointwise nat_eq a b) (sym is ∙ e)

module _ (file other : List ℕ) (one two : Held) where
  -- two teams don't meet
  pub body_of_two : (rest : Contents) (old : Option FileMap) (stop : Stop) → IsOtherTeam stop → same_name one.team two.team ≡ false
      → IsBodyOf (meeting file other one two) (record rest { files = old }) (record rest { files = old }) (Err stop)
  body_of_two rest old stop is apart = body_says (meeting file other one two) (record rest { files = old }) (record rest { files = old }) (Err stop) (λ w known. known) (λ w known. says stop w is)
    where
      says : (s : Stop) (w : World) → IsOtherTeam s → IfSome (answer_of (Err s)) (λ a. meeting file other one two w (saying a.status a.text))
      says (Refused a) w h =
          subst (λ (b : Bool). by_team b file other one two (saying a.status a.text)) (sym apart) (ap (λ (n : ℕ). saying n a.text) h.0 ∙ ap (λ (t : List ℕ). saying 4 t) h.1)
      says Failed w h = absurd h
      says Memory w h = tt

  module _ (kept given : Held) (m : Met) (is : IsMet one two kept given m) (same : same_name one.team two.team ≡ true) where
    abbrev told_text : List ℕ
    told_text = met_text (length kept.links - length one.links) (length given.links - length two.links) m

    done : (w : World) → meeting file other one two w (met file other one two kept given m)
    done w = subst (λ (b : Bool). by_team b file other one two (met file other one two kept given m)) (sym same) (kept, given, m, is, refl)

    -- a replace failed
    pub body_failed : (rest : Contents) (old new : Option FileMap) (r : Result Answer Stop) (f : Fault) → IsErrAnd r (λ s. s ≡ stop_of f)
        → ((w : World) → AreKnown (record rest { files = old }) w → IsCut (record rest { files = new }) (puts (met_puts file other kept given)) w)
        → IsBodyOf (meeting file other one two) (record rest { files = old }) (record rest { files = new }) r
    body_failed rest old new r f e cut =
        body_works (meeting file other one two) (record rest { files = old }) (record rest { files = new }) r (met_status m) 0 (met_puts file other kept given) told_text
        (λ w known. (done w, fault_answers_nothing r f (λ a. (a.status ≡ met_status m) × (a.text ≡ told_text) × AreKnown (record rest { files = new }) (after (puts (met_puts file other kept given)) w)) e, cut w known))

    -- both files are replaced
    pub body_done : (rest : Contents) (old new : Option FileMap) (a : Answer) → a.status ≡ met_status m → a.text ≡ told_text
        → ((w : World) → AreKnown (record rest { files = old }) w → AreKnown (record rest { files = new }) (after (puts (met_puts file other kept given)) w))
        → IsBodyOf (meeting file other one two) (record rest { files = old }) (record rest { files = new }) (Ok a)
    body_done rest old new a status text known =
        body_did (meeting file other one two) (record rest { files = old }) (record rest { files = new }) a (met_status m) 0 (met_puts file other kept given) told_text
        (λ w is. (done w, status, text, known w is))

-- what is answered of two teams has a status among these, and comes of no fault
pub status_of_two : (stop : Stop) → IsOtherTeam stop → IfSome (answer_of (Err stop)) (λ a. Contains {X = ℕ} (0 ∷ 1 ∷ 3 ∷ 4 ∷ []) a.status)
status_of_two (Refused a) is = subst (λ (n : ℕ). Contains {X = ℕ} (0 ∷ 1 ∷ 3 ∷ 4 ∷ []) n) (sym is.0) (3, omega arith, refl)
status_of_two Failed is = absurd is
status_of_two Memory is = tt

pub cause_of_two : (n : ℕ) (stop : Stop) → IsOtherTeam stop → HasCauseOrStop {T = Answer} n n (Err stop)
cause_of_two n stop is = record { later = omega arith; failed = λ e. never stop is e }
  where
    never : (s : Stop) → IsOtherTeam s → ◌≡◌ {A = Result Answer Stop} (Err s) (Err Failed) → Rose n n
    never (Refused a) h e = absurd cc
    never Failed h e = absurd h
    never Memory h e = absurd cc

-- the status of a meeting is among these
pub met_among : (m : Met) → Contains {X = ℕ} (0 ∷ 1 ∷ 3 ∷ 4 ∷ []) (met_status m)
met_among m = go ((m.refused_by_first == 0) && (m.refused_by_second == 0))
  where
    go : (b : Bool) → Contains {X = ℕ} (0 ∷ 1 ∷ 3 ∷ 4 ∷ []) (cond b 0 1)
    go true = (0, omega arith, refl)
    go false = (1, omega arith, refl)
