-- What a body has done where a key signed first.
use Rattle.std.proofs.Common.{◌≡◌, ◌<◌, ℕ, List, [], ◌∷◌, ◌++◌, Option, Some, None, IfSome, IsErrAnd, Result, Ok, Err, refl, sym, subst, inr}
use Rattle.std.specs.FinMap as fin
use Rattle.tg_outside.specs.Contents.{FileMap}
use Rattle.tg_outside.specs.declared.fault.Fault.{Fault}
use Rattle.outcomes.specs.declared.answer.Answer.{Answer}
use Rattle.outcomes.specs.declared.stop.Stop.{Stop}
use Rattle.outcomes.specs.declared.stop.Stop.TheVariants.{Refused, Failed, Memory}
use Rattle.outcomes.specs.Steps.{World, Step, Outcome, after, replace}
use Rattle.outcomes.specs.Seeing.{Contents, WithFiles, AreKnown, IsCut}
use Rattle.outcomes.specs.Ending.{IsBodyOf, IsPrepared, answer_of, stop_of}
use Rattle.outcomes.proofs.Joining.{cut-first}
use Rattle.outcomes.proofs.Printing.{body_after, body_fails}
use Rattle.lms_tree.specs.Signatures.{public_key, signature_of}
use Rattle.lms_keep.specs.KeyText.{IsKeyState, key_text, leaves}
use Rattle.lms_keep.specs.Signing.{SignsFor, advanced, tree_key}
use Rattle.lms_keep.specs.declared.key_state.KeyState.{KeyState}
use Rattle.key_commands.specs.KnownKeys.{HoldsKey}
use Rattle.key_commands.proofs.KnownKeys.{never_nothing, signed_known, signed_known-cut}
use Rattle.author_commands.specs.Authoring.{first}

-- it never comes to this, where the contents are known
body_never : (does : World → Outcome → Type 0) (old new : Contents) (r : Result Answer Stop) → ((w : World) → AreKnown old w → ⊥) → IsBodyOf does old new r
body_never does old new r never = record { prepared = answered r; cut = λ w is. absurd (never w is) }
  where
    answered : (r : Result Answer Stop) → IfSome (answer_of r) (λ a. (w : World) → AreKnown old w → IsPrepared does new w a)
    answered (Ok a) = λ w is. absurd (never w is)
    answered (Err (Refused a)) = λ w is. absurd (never w is)
    answered (Err Failed) = tt
    answered (Err Memory) = tt

-- a key file that was read, whose key has a leaf left, and what signing with it promises
module _ (name key message : List ℕ) (s : KeyState) (range : IsKeyState s) (known : key ≡ public_key (tree_key s)) (leaf : s.next < leaves s.lms) (old new : Option FileMap)
    (bears : IfSome old (λ m. fin.get m name ≡ Some (key_text s))) (r : Result (Option (List ℕ)) Fault)
    (signs : IfSome old (λ m. fin.get m name ≡ Some (key_text s) → SignsFor m name key s message new r)) where
  abbrev steps : List Step
  steps = replace name (key_text (advanced s)) ∷ []

  holds_key : (rest : Contents) (w : World) → AreKnown (record rest { files = old }) w → HoldsKey w name key s
  holds_key rest w is = record { range = range; file = subst (λ (f : Option FileMap). IfSome f (λ m. fin.get m name ≡ Some (key_text s))) is.files bears; left = leaf; known = sym known }

  signing-cut : (rest : Contents) (w : World) → AreKnown (record rest { files = old }) w → IsCut (record rest { files = new }) steps w
  signing-cut rest w is = signed_known-cut old new name key message s r rest w signs (holds_key rest w is) is

  -- the signing failed
  pub signing_fails : (then : World → Outcome → Type 0) (result : Result Answer Stop) (f : Fault) → IsErrAnd result (λ e. e ≡ stop_of f) → ((w : World) → (o : Outcome) × then w o)
      → WithFiles old new (λ old new. IsBodyOf (first steps then) old new result)
  signing_fails then result f e some = λ rest. body_fails (first steps then) (record rest { files = old }) (record rest { files = new }) result f e (λ w is.
      let o = some (after steps w) in
      inr (record { status = o.0.status; steps = steps ++ o.0.steps }, (o.0, o.1, refl), cut-first steps o.0.steps w (record rest { files = new }) (signing-cut rest w is)))

  -- it doesn't find another key
  pub signs_never : (does : World → Outcome → Type 0) (result : Result Answer Stop) → r ≡ Ok None → WithFiles old new (λ old new. IsBodyOf does old new result)
  signs_never does result e = λ rest. body_never does (record rest { files = old }) (record rest { files = new }) result (λ w is.
      never_nothing old new name key message s rest w (subst (λ (q : Result (Option (List ℕ)) Fault). IfSome old (λ m. fin.get m name ≡ Some (key_text s) → SignsFor m name key s message new q)) e signs) (holds_key rest w is) is)

  -- it signed, and the body of what follows is the body of the whole
  pub goes_on_signed : (then : List ℕ → World → Outcome → Type 0) (end : Option FileMap) (result : Result Answer Stop) (signature : List ℕ) → r ≡ Ok (Some signature)
      → ((w : World) → (o : Outcome) × then signature w o)
      → WithFiles new end (λ old new. IsBodyOf (then signature) old new result)
      → WithFiles old end (λ old new. IsBodyOf (first steps (then (signature_of (tree_key s) s.next message))) old new result)
  goes_on_signed then end result signature e some body = λ rest.
      body_after (then signature) (first steps (then (signature_of (tree_key s) s.next message))) (record rest { files = old }) (record rest { files = new }) (record rest { files = end }) result steps
      (λ w is. (signed rest w is).1)
      (λ w o is d. (o, subst (λ (l : List ℕ). then l (after steps w) o) (same rest w is) d, refl))
      (λ w is. some (after steps w))
      (body rest)
    where
      signed : (rest : Contents) (w : World) → AreKnown (record rest { files = old }) w
          → (Some signature ≡ Some (signature_of (tree_key s) s.next message)) × AreKnown (record rest { files = new }) (after steps w)
      signed rest w is =
          signed_known old new name key message s (Ok (Some signature)) rest w
          (subst (λ (q : Result (Option (List ℕ)) Fault). IfSome old (λ m. fin.get m name ≡ Some (key_text s) → SignsFor m name key s message new q)) e signs) (holds_key rest w is) is

      same : (rest : Contents) (w : World) → AreKnown (record rest { files = old }) w → signature ≡ signature_of (tree_key s) s.next message
      same rest w is = let both = (signed rest w is).0 in cc
