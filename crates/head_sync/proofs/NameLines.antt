-- Lines of names, of which there may be any number.
use Rattle.std.proofs.Common.{◌≡◌, ℕ, List, [], ◌∷◌, ◌++◌, Result, Ok, Err, OnOk, append_assoc, codes, refl, sym, ap, ◌∙◌, arith}
use Rattle.std.specs.List.{AllByRecursion}
use Rattle.tg_text.specs.Spelling.{IsHash, spell_hex}
use Rattle.tg_text.proofs.Lists.{head_is}
use Rattle.team_sets.specs.Names.{Name}
use Rattle.link_text.specs.Takes.{HasNoLine}
use Rattle.link_text.proofs.Fields.{parents}
use Rattle.link_text.proofs.Repeated.{lines_once}
use Rattle.head_sync.specs.Bodies.{TakesNames}
use Rattle.head_sync.specs.Messages.{name_lines}

-- Where the next line isn't of the word, all were taken.
pub all_taken : (word : List ℕ) (names : List Name) (old left new : List ℕ) → AllByRecursion IsHash names → old ≡ name_lines word names ++ left → HasNoLine word left → new ≡ left
    → TakesNames (AllByRecursion IsHash) word old new (Ok names)
all_taken word names old left new are e none stays = record {
  found = (are, e ∙ ap (λ (t : List ℕ). name_lines word names ++ t) (sym stays));
  only = λ others rest is end other.
      let same = lines_once IsHash (λ n. spell_hex n) word parents names others left rest are is none end (sym e ∙ other) in
      (same.0, stays ∙ same.1);
}

-- No line stands in an empty text,
pub no_line : (word : List ℕ) → HasNoLine word []
no_line [] field more e = let h : [] ≡ 32 ∷ (field ++ 10 ∷ more) = e in cc
no_line (c ∷ word) field more e = let h : [] ≡ c ∷ (word ++ 32 ∷ (field ++ 10 ∷ more)) = e in cc

-- nor one of a name that is asked for among marks.
pub no_name : (marks : List Name) → HasNoLine (codes "name") (name_lines (codes "mark") marks)
no_name [] field more e = no_line (codes "name") field more e
no_name (m ∷ ms) field more e = let h : 109 ≡ 110 = head_is _ _ _ _ e in omega (arith, h)

-- What is written after what was.
pub appends : {T E : Type 0} (r : Result T E) (old mid new a b : List ℕ) → mid ≡ old ++ a → OnOk r (new ≡ mid ++ b) → OnOk r (new ≡ old ++ (a ++ b))
appends (Ok x) old mid new a b e h = h ∙ ap (λ (t : List ℕ). t ++ b) e ∙ append_assoc old a b
appends (Err x) old mid new a b e h = tt
