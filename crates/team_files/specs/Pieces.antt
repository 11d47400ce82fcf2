-- A bundle that comes in pieces: what is kept between them, and what each piece answers.
use Rattle.tg_text.specs.Limits.{most_file_bytes}
use Rattle.std.specs.Prelude.{◌≡◌, ◌↔◌, ℕ, Bool, true, false, List, [], ◌∷◌, ◌++◌, Option, Some, None}
use Rattle.std.specs.List.{concat}
use Rattle.team_files.specs.declared.item.Item.{Item}
use Rattle.team_files.specs.Bundles.{IsBundle, IsFront, IsJudged}

-- the bytes of the unfinished item, how many bytes may still come and be judged, and whether a fault was answered
pub record Pending : Type 0 where
  pub kept : List ℕ
  pub left : ℕ
  pub over : Bool

-- nothing has come
abbrev pub started : Pending
started = record { kept = []; left = most_file_bytes; over = false }

abbrev pub Comes : Bool → ℕ → List ℕ → List ℕ → List Item → Type 0
Comes true left kept more items = items ≡ []
Comes false left kept more items = IsJudged left kept more items

-- the items that are still to come where more is all the input that follows. Behind a fault there are none
abbrev pub IsComing : Pending → List ℕ → List Item → Type 0
IsComing s more items = Comes s.over s.left s.kept more items

-- what is kept decides nothing yet: it is a proper prefix of an item's text
abbrev pub IsUnfinished : Pending → Type 0
IsUnfinished s = s.over ≡ false → IsFront s.kept

-- a piece answers items and leaves a bundle so that, whatever follows, the items that come of the old bundle are these
-- and those that come of the new one. No item is held back that the bytes so far complete, or make a fault
pub record Answers (old : Pending) (piece : List ℕ) (items : List Item) (new : Pending) : Type 0 where
  pub all : (more : List ℕ) (all : List Item) → IsComing old (piece ++ more) all ↔ ((later : List Item) × (all ≡ items ++ later) × IsComing new more later)
  pub prompt : IsUnfinished new

-- the items at the end of the input
abbrev pub last_items : Option Item → List Item
last_items None = []
last_items (Some item) = item ∷ []

-- a run over pieces, and the items that each answers
abbrev pub IsRunOver : Pending → List (List ℕ) → List (List Item) → Pending → Type 0
IsRunOver old [] [] new = new ≡ old
IsRunOver old (piece ∷ pieces) (items ∷ answers) new = (mid : Pending) × Answers old piece items mid × IsRunOver mid pieces answers new
IsRunOver old [] (items ∷ answers) new = ⊥
IsRunOver old (piece ∷ pieces) [] new = ⊥

abbrev pub joined : List (List Item) → List Item
joined [] = []
joined (items ∷ answers) = items ++ joined answers

-- the items of a bundle depend on its bytes, and not on how they were cut into pieces
abbrev pub PiecesDontMatter : Type 0
PiecesDontMatter = (pieces : List (List ℕ)) (answers : List (List Item)) (new : Pending) (last : List Item)
    → IsRunOver started pieces answers new → IsComing new [] last → IsBundle (concat pieces) (joined answers ++ last)

-- bytes have one list of items
abbrev pub BundleIsReadOnce : Type 0
BundleIsReadOnce = (input : List ℕ) (items others : List Item) → IsBundle input items → IsBundle input others → items ≡ others

-- and all bytes have one
abbrev pub BundleHasItems : Type 0
BundleHasItems = (input : List ℕ) → (items : List Item) × IsBundle input items
