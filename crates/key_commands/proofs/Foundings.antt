-- How the root of a team is signed and its files are written, as steps.
use Rattle.std.proofs.Common.{◌≡◌, ◌<◌, ◌∙◌, ℕ, List, [], ◌∷◌, ◌++◌, Option, Some, None, Result, Ok, Err, IfOk, IfSome, OnOk, refl, sym, ap, subst, append-nil}
use Rattle.std.specs.FinMap as fin
use Rattle.std.specs.Cmp.Lexicographic.{nat_list_cmp_total}
use Rattle.std.proofs.lemmas.Cmp.{tied_itself}
use Rattle.tg_outside.specs.Contents.{FileMap}
use Rattle.tg_outside.specs.declared.fault.Fault.{Fault}
use Rattle.team_model.specs.declared.terms.Link.{Link}
use Rattle.lms_tree.specs.Signatures.{public_key, signature_of}
use Rattle.lms_keep.specs.KeyText.{IsKeyState, key_text, leaves}
use Rattle.lms_keep.specs.Signing.{SignsFor, advanced, tree_key}
use Rattle.lms_keep.specs.declared.key_state.KeyState.{KeyState}
use Rattle.link_text.specs.LinkText.{sign_line, text}
use Rattle.link_text.specs.Drafts.{draft_body}
use Rattle.link_text.specs.TeamFile.{file_text, frame, header}
use Rattle.outcomes.specs.declared.put.Put.{Put}
use Rattle.outcomes.specs.declared.answer.Answer.{Answer}
use Rattle.outcomes.specs.Steps.{World, Outcome, acting, after, put, puts, replace}
use Rattle.outcomes.specs.Seeing.{Contents, AreKnown, IsCut}
use Rattle.outcomes.proofs.Joining.{cut-first, cut-then}
use Rattle.key_commands.specs.KnownKeys.{HoldsKey}
use Rattle.key_commands.specs.Newkey.{drawn_key}
use Rattle.key_commands.specs.Make.{file_of_one, founding, making_team, root_puts, signed_body, signed_link, signing_puts, team_told}
use Rattle.key_commands.proofs.KnownKeys.{signed_known, signed_known-cut}

-- a file has the bytes that it was given
pub given : (m : FileMap) (name bytes : List ℕ) → fin.get (fin.insert m name bytes) name ≡ Some bytes
given m name bytes = rw (fin.get-insert nat_list_cmp_total m name bytes name, tied_itself nat_list_cmp_total name) refl

-- a key file that was written is known, and has a leaf left
pub holds_put : (w : World) (name key : List ℕ) (s : KeyState) → IsKeyState s → s.next < leaves s.lms → public_key (tree_key s) ≡ key
    → HoldsKey (after (replace name (key_text s) ∷ []) w) name key s
holds_put w name key s range left known = record { range = range; file = given w.files name (key_text s); left = left; known = known }

-- the key file with the leaf after is written, and the team file of the root with the signature
module _ (old mid : Option FileMap) (file key_file key body : List ℕ) (s : KeyState) (seen : Contents) (w : World) (holds : HoldsKey w key_file key s) (is : AreKnown (record seen { files = old }) w) where
  abbrev Signs : Result (Option (List ℕ)) Fault → Type 0
  Signs r = IfSome old (λ m. fin.get m key_file ≡ Some (key_text s) → SignsFor m key_file key s body mid r)

  abbrev moved : World
  moved = after (replace key_file (key_text (advanced s)) ∷ []) w

  abbrev told : List ℕ → List Put
  told signature = put file (file_of_one (body ++ sign_line signature)) ∷ []

  is_next : (signature : List ℕ) → Signs (Ok (Some signature)) → signature ≡ signature_of (tree_key s) s.next body
  is_next signature signs = let same = (signed_known old mid key_file key body s (Ok (Some signature)) seen w signs holds is).0 in cc

  is_moved : (signature : List ℕ) → Signs (Ok (Some signature)) → AreKnown (record seen { files = mid }) moved
  is_moved signature signs = (signed_known old mid key_file key body s (Ok (Some signature)) seen w signs holds is).1

  pub team_done : (new : Option FileMap) (signature : List ℕ) (r : Result Answer Fault) → Signs (Ok (Some signature))
      → IfOk r (λ a. (a.status ≡ 0) × (a.text ≡ team_told (body ++ sign_line signature)))
      → (AreKnown (record seen { files = mid }) moved → OnOk r (AreKnown (record seen { files = new }) (after (puts (told signature)) moved)))
      → IfOk r (λ a. (a.status ≡ 0) × (a.text ≡ team_told (signed_body s body)) × AreKnown (record seen { files = new }) (after (puts (signing_puts file key_file s (signed_body s body))) w))
  team_done new signature (Err e) signs said done = tt
  team_done new signature (Ok a) signs said done = let next = is_next signature signs in (
    said.0,
    said.1 ∙ ap (λ (x : List ℕ). team_told (body ++ sign_line x)) next,
    subst (λ (x : List ℕ). AreKnown (record seen { files = new }) (after (puts (told x)) moved)) next (done (is_moved signature signs)),
  )

  pub team_cut : (new : Option FileMap) (signature : List ℕ) → Signs (Ok (Some signature))
      → (AreKnown (record seen { files = mid }) moved → IsCut (record seen { files = new }) (puts (told signature)) moved)
      → IsCut (record seen { files = new }) (puts (signing_puts file key_file s (signed_body s body))) w
  team_cut new signature signs cut =
      cut-then (replace key_file (key_text (advanced s)) ∷ []) (puts (told (signature_of (tree_key s) s.next body))) w (record seen { files = new })
      (subst (λ (x : List ℕ). IsCut (record seen { files = new }) (puts (told x)) moved) (is_next signature signs) (cut (is_moved signature signs)))

  pub unsigned_cut : (r : Result (Option (List ℕ)) Fault) → Signs r → IsCut (record seen { files = mid }) (puts (signing_puts file key_file s (signed_body s body))) w
  unsigned_cut r signs =
      cut-first (replace key_file (key_text (advanced s)) ∷ []) (puts (told (signature_of (tree_key s) s.next body))) w (record seen { files = mid })
      (signed_known-cut old mid key_file key body s r seen w signs holds is)

-- the team file of one link
one_file : (name : List ℕ) (root : Link) → file_text name (root ∷ []) ≡ header name ++ frame (text root)
one_file name root = ap (λ (bytes : List ℕ). header name ++ bytes) (append-nil (frame (text root)))

-- a founding by the key that was drawn, and by the body of its root
module _ (public_of : List ℕ → List ℕ) (file key_file user title : List ℕ) (time : ℕ) (s : KeyState) (body : List ℕ) (body_is : body ≡ draft_body (founding public_of s title time)) where
  abbrev by_body : List ℕ → Outcome
  by_body x = acting 0 3 (root_puts file key_file s x) (team_told (signed_body s x))

  by_texts : making_team public_of file key_file title time s ≡ by_body body
  by_texts =
      let draft = founding public_of s title time in
      let root = signed_link s draft in
      subst (λ (x : List ℕ). making_team public_of file key_file title time s ≡ by_body x) (sym body_is)
      (ap (λ (bytes : List ℕ). acting 0 3 (put key_file (key_text s) ∷ put key_file (key_text (advanced s)) ∷ put file bytes ∷ []) (team_told (signed_body s (draft_body draft)))) (one_file root.name root))

  -- by the moment of the clock and the words of the world
  pub founds : (w : World) → s ≡ drawn_key user w → time ≡ w.moment → by_body body ≡ making_team public_of file key_file title w.moment (drawn_key user w)
  founds w drawn now =
      sym by_texts ∙ ap (λ (k : KeyState). making_team public_of file key_file title time k) drawn ∙ ap (λ (t : ℕ). making_team public_of file key_file title t (drawn_key user w)) now

-- the moment is the clock's
pub at_moment : (time : ℕ) (moment : Option ℕ) (now : ℕ) → IfSome moment (λ m. time ≡ m) → moment ≡ Some now → time ≡ now
at_moment time moment now told is = subst (λ (o : Option ℕ). IfSome o (λ m. time ≡ m)) is told
