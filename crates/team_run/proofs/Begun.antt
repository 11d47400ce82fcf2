-- The file of a team that a run founded.
use Rattle.std.proofs.Common.{◌≡◌, ◌≢◌, ◌⊎◌, ◌∙◌, inl, inr, ℕ, zero, suc, IsTrue, List, [], ◌∷◌, ◌++◌, Some, None, get_or, replicate, refl, sym, ap, append_assoc, arith}
use Rattle.std.specs.FinMap as fin
use Rattle.std.specs.List.{AllByRecursion}
use Rattle.tg_text.specs.Spelling.{AreBytes, IsHash, IsTitle, is_user_name}
use Rattle.tg_outside.specs.Contents.{FileMap, IsWord}
use Rattle.lms_keep.specs.KeyText.{IsKeyState, key_text}
use Rattle.lms_keep.specs.Making.{NewKeyHasAFile}
use Rattle.lms_keep.specs.Signing.{advanced}
use Rattle.link_text.specs.TeamFile.{file_text}
use Rattle.lockboxes.specs.Keeping.{Keeper}
use Rattle.outcomes.specs.Refusing.{FindsNone, opening}
use Rattle.outcomes.specs.Seeing.{IsCut}
use Rattle.outcomes.specs.Steps.{World, Step, Outcome, after, drawn, draws, replace, writes}
use Rattle.team_words.specs.declared.command.Command.TheVariants.{Make}
use Rattle.key_commands.specs.Make.{make_text, making_team}
use Rattle.key_commands.specs.MakeLaws.{MadeIsHeld}
use Rattle.key_commands.specs.Newkey.{drawn_key}
use Rattle.team_run.specs.ManyRuns.{MakeBeginsTeam, OneRun, Replaces, TellsInRange, alone, root_of, told}
use Rattle.team_run.specs.Running.{does_words}
use Rattle.team_run.specs.Serving.{HoldsTeam}
use Rattle.team_run.proofs.Cuts.{draws_replace_none, last_bytes, replaces_part, same_files, saying_replaces_none}
use Rattle.team_run.proofs.Openings.{IsSaid, absent_or, founds}
use Rattle.team_run.proofs.Rights.{words_right}
use Rattle.team_run.proofs.Runs.{does_of}

-- each drawn word has 32 bytes
zeros : (n : ℕ) → AreBytes (replicate n 0)
zeros zero i = omega arith
zeros (suc n) zero = omega arith
zeros (suc n) (suc i) = zeros n i

word_at : (words : List (List ℕ)) (n : ℕ) → AllByRecursion IsWord words → IsHash (get_or words n (replicate 32 0))
word_at [] n are = record { size = refl; bytes = zeros 32 }
word_at (x ∷ words) zero are = are.0
word_at (x ∷ words) (suc n) are = word_at words n are.1

module _ (keeper : Keeper) (w : World) (file key_file user title : List ℕ) (differ : file ≢ key_file) where
  abbrev root_text : List ℕ
  root_text = let root = root_of keeper.public_of user title w in file_text root.name (root ∷ [])

  abbrev told_text : List ℕ
  told_text = make_text (root_of keeper.public_of user title w)

  abbrev key_steps : List Step
  key_steps = let s = drawn_key user w in replace key_file (key_text s) ∷ replace key_file (key_text (advanced s)) ∷ []

  none_before : ¬ (Replaces file (draws 3 ++ key_steps))
  none_before r = go (replaces_part file (draws 3) key_steps r)
    where
      key : (key_file ≡ file) ⊎ ((key_file ≡ file) ⊎ ⊥) → ⊥
      key (inl e) = differ (sym e)
      key (inr (inl e)) = differ (sym e)
      key (inr (inr x)) = x

      go : Replaces file (draws 3) ⊎ Replaces file key_steps → ⊥
      go (inl x) = draws_replace_none file 3 x
      go (inr x) = key x

  root_bytes : (o : Outcome) (first rest : List Step) → o ≡ making_team keeper.public_of file key_file title w.moment (drawn_key user w) → o.steps ≡ first ++ rest → Replaces file first
      → fin.get (after first w).files file ≡ Some root_text
  root_bytes o first rest is whole r =
      last_bytes (draws 3 ++ key_steps) file root_text told_text first rest w none_before
      (append_assoc (draws 3) key_steps (replace file root_text ∷ writes told_text) ∙ sym (ap (λ (x : Outcome). x.steps) is) ∙ whole) r

module _ (made_held : MadeIsHeld) (new_key : NewKeyHasAFile) (keeper : Keeper) (r : OneRun) (file key_file user title : List ℕ) (sealed : (secret : List ℕ) → IsHash secret → IsHash (keeper.public_of secret))
    (range : TellsInRange r.old) (right : (file ≢ key_file) × IsTrue (is_user_name user) × IsTitle title) (o : Outcome) (cut : IsCut (told r.new) o.steps r.old) (replaced : Replaces file cut.first) where
  abbrev BeginsTeam : Type 0
  BeginsTeam = HoldsTeam r.new.files file (alone (root_of keeper.public_of user title r.old))

  key_range : IsKeyState (drawn_key user r.old)
  key_range =
      let words = r.old.draws in
      (new_key user (drawn 0 r.old) (drawn 1 r.old) (drawn 2 r.old) right.1 (word_at words 0 range.draws) (word_at words 1 range.draws) (word_at words 2 range.draws)).range

  founded : founds keeper.public_of file key_file user title r.old o → BeginsTeam
  founded is = (
    root_text keeper r.old file key_file user title right.0,
    ap (λ (m : FileMap). fin.get m file) (same_files r.new (after cut.first r.old) cut.told)
        ∙ root_bytes keeper r.old file key_file user title right.0 o cut.first cut.rest is cut.whole replaced,
    made_held keeper.public_of (drawn_key user r.old) title r.old.moment key_range (omega arith) right.2 range.moment (sealed (drawn 2 r.old) (word_at r.old.draws 2 range.draws)),
  )

  not_said : IsSaid o → BeginsTeam
  not_said said = absurd (saying_replaces_none file said.0 3 o cut.first cut.rest said.1 cut.whole replaced)

  by_key : IsSaid o ⊎ ((none : Unit {0}) × (fin.get r.old.files key_file ≡ None) × founds keeper.public_of file key_file user title r.old o) → BeginsTeam
  by_key (inl said) = not_said said
  by_key (inr (none, k, is)) = founded is

  by_file : IsSaid o ⊎ ((none : Unit {0}) × (fin.get r.old.files file ≡ None) × opening FindsNone key_file (λ none. founds keeper.public_of file key_file user title) r.old o) → BeginsTeam
  by_file (inl said) = not_said said
  by_file (inr (none, f, d)) = by_key (absent_or key_file (λ none. founds keeper.public_of file key_file user title) r.old o d)

  begun : does_words keeper (Some (Make file key_file user title)) r.old o → BeginsTeam
  begun d = by_file (absent_or file (λ none. opening FindsNone key_file (λ none. founds keeper.public_of file key_file user title)) r.old o d)

pub make_begins : MadeIsHeld → NewKeyHasAFile → MakeBeginsTeam
make_begins made_held new_key keeper r file key_file user title sealed range words done =
    begun made_held new_key keeper r file key_file user title sealed range (words_right words) done.outcome done.cut done.replaced
    (does_of keeper r.words (Some (Make file key_file user title)) words r.old done.outcome done.does)
