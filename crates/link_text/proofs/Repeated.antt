-- Lines of one word, of which there may be any number.
use Rattle.std.proofs.Common.{◌≡◌, ℕ, false, List, [], ◌∷◌, ◌++◌, Ok, flat_map, refl, sym, ap, ◌∙◌, append_assoc}
use Rattle.std.specs.List.{AllByRecursion}
use Rattle.tg_text.specs.Spelling.{has_newline, line_of}
use Rattle.tg_text.proofs.FieldLines.{line_once, line_then, spelled_once}
use Rattle.link_text.specs.declared.fault.LineFault.{LineFault}
use Rattle.link_text.specs.declared.fault.LineFault.TheVariants.{BadText, Memory}
use Rattle.link_text.specs.Takes.{HasNoLine, TakesAll}

-- The field of a line is cut by no newline, and is that of one value.
pub record IsField {X : Type 0} (IsX : X → Type 0) (spell : X → List ℕ) : Type 0 where
  pub lacks : (x : X) → IsX x → has_newline (spell x) ≡ false
  pub once : (x y : X) → IsX x → IsX y → spell x ≡ spell y → x ≡ y

-- a fault other than a bad text is want of memory
pub not_bad : (fault : LineFault) → (fault ≡ BadText → ⊥) → fault ≡ Memory
not_bad BadText not = absurd (not refl)
not_bad Memory not = refl

same_items : {X : Type 0} (x y : X) (xs ys : List X) → x ≡ y → xs ≡ ys → x ∷ xs ≡ y ∷ ys
same_items x y xs ys e f = cc

module _ {X : Type 0} (IsX : X → Type 0) (spell : X → List ℕ) (word : List ℕ) (is : IsField IsX spell) where
  abbrev line : X → List ℕ
  line x = line_of (word ∷ spell x ∷ [])

  -- what stands after the first of some lines
  first_then : (x : X) (xs : List X) (after : List ℕ) → flat_map line (x ∷ xs) ++ after ≡ line x ++ (flat_map line xs ++ after)
  first_then x xs after = append_assoc (line x) (flat_map line xs) after

  -- a text without the line has no lines of the word
  none_there : (x : X) (xs : List X) (after rest : List ℕ) → HasNoLine word rest → flat_map line (x ∷ xs) ++ after ≡ rest → ⊥
  none_there x xs after rest none e =
      none (spell x) (flat_map line xs ++ after) (sym e ∙ first_then x xs after ∙ line_then word (spell x) (flat_map line xs ++ after))

  pub lines_once : (xs ys : List X) (a b : List ℕ) → AllByRecursion IsX xs → AllByRecursion IsX ys → HasNoLine word a → HasNoLine word b
      → flat_map line xs ++ a ≡ flat_map line ys ++ b → (xs ≡ ys) × (a ≡ b)
  lines_once [] [] a b are other na nb e = (refl, e)
  lines_once [] (y ∷ ys) a b are other na nb e = absurd (none_there y ys b a na (sym e))
  lines_once (x ∷ xs) [] a b are other na nb e = absurd (none_there x xs a b nb e)
  lines_once (x ∷ xs) (y ∷ ys) a b are other na nb e =
      let cut = spelled_once word (spell x) (spell y) (flat_map line xs ++ a) (flat_map line ys ++ b) (is.lacks x are.0) (is.lacks y other.0)
      (sym (first_then x xs a) ∙ e ∙ first_then y ys b) in
      let rest = lines_once xs ys a b are.1 other.1 na nb cut.1 in
      (same_items x y xs ys (is.once x y are.0 other.0 cut.0) rest.0, rest.1)

  -- after some of the lines stands that of the next value, or none
  pub next_one : (done : List X) (field after : List ℕ) (xs : List X) (rest : List ℕ) → AllByRecursion IsX done → AllByRecursion IsX xs → HasNoLine word rest → has_newline field ≡ false
      → flat_map line done ++ (word ++ 32 ∷ (field ++ 10 ∷ after)) ≡ flat_map line xs ++ rest → (x : X) × IsX x × (field ≡ spell x)
  next_one [] field after [] rest so are none lacks e = absurd (none field after (sym e))
  next_one [] field after (x ∷ xs) rest so are none lacks e = (
    x,
    are.0,
    (line_once word field (spell x) after (flat_map line xs ++ rest) lacks (is.lacks x are.0) (e ∙ first_then x xs rest ∙ line_then word (spell x) (flat_map line xs ++ rest))).0,
  )
  next_one (d ∷ done) field after [] rest so are none lacks e = absurd (none_there d done (word ++ 32 ∷ (field ++ 10 ∷ after)) rest none e)
  next_one (d ∷ done) field after (x ∷ xs) rest so are none lacks e =
      next_one done field after xs rest so.1 are.1 none lacks
      (spelled_once word (spell d) (spell x) (flat_map line done ++ (word ++ 32 ∷ (field ++ 10 ∷ after))) (flat_map line xs ++ rest) (is.lacks d so.0) (is.lacks x are.0)
      (sym (first_then d done (word ++ 32 ∷ (field ++ 10 ∷ after))) ∙ e ∙ first_then x xs rest)).1

  -- Where the next line isn't of the word, all were taken.
  pub ends : (xs : List X) (old left new : List ℕ) → AllByRecursion IsX xs → old ≡ flat_map line xs ++ left → HasNoLine word left → new ≡ left
      → TakesAll (AllByRecursion IsX) (flat_map line) (HasNoLine word) old new (Ok xs)
  ends xs old left new are e none stays = record {
    found = (are, e ∙ ap (λ (t : List ℕ). flat_map line xs ++ t) (sym stays));
    only = λ ys rest others end other.
        let same = lines_once xs ys left rest are others none end (sym e ∙ other) in
        (same.0, stays ∙ same.1);
  }
