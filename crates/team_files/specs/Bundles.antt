-- A bundle: any sequence of header lines and frames, and the faults that may stand in an item's place.
use Rattle.std.specs.Prelude.{◌≡◌, ℕ, ◌<◌, ◌≤◌, ◌^◌, ◌⊎◌, List, [], ◌∷◌, ◌++◌, length, take, codes}
use Rattle.tg_text.specs.Limits.{most_file_bytes}
use Rattle.tg_text.specs.Spelling.{IsHash, line_of, spell_decimal}
use Rattle.link_text.specs.TeamFile.{frame, header}
use Rattle.team_files.specs.declared.item.Item.{Item}
use Rattle.team_files.specs.declared.item.Item.TheVariants.{Header, Text, Cut, BadFrame, Long}

-- the first line of a frame whose text has n bytes
abbrev pub length_line : ℕ → List ℕ
length_line n = line_of (codes "link" ∷ spell_decimal n ∷ [])

-- the text of an item: a header line, or a frame whose length has at most nine digits
abbrev pub IsItemText : List ℕ → Type 0
IsItemText bytes = ((team : List ℕ) × IsHash team × (bytes ≡ header team)) ⊎ ((inner : List ℕ) × (length inner < 10 ^ 9) × (bytes ≡ frame inner))

-- a proper prefix of the text of an item, also the empty one
abbrev pub IsFront : List ℕ → Type 0
IsFront bytes = (more : List ℕ) × (0 < length more) × IsItemText (bytes ++ more)

-- no item begins so
pub record IsBad (bytes : List ℕ) : Type 0 where
  pub some : 0 < length bytes
  pub no_header : (team rest : List ℕ) → IsHash team → bytes ≡ header team ++ rest → ⊥
  pub no_frame : (n : ℕ) (rest : List ℕ) → n < 10 ^ 9 → bytes ≡ length_line n ++ rest → ⊥
  pub no_front : IsFront bytes → ⊥

-- the bytes are the text of this item with the rest behind; a fault has no text
abbrev pub Begins : List ℕ → Item → List ℕ → Type 0
Begins bytes Header rest = (team : List ℕ) × IsHash team × (bytes ≡ header team ++ rest)
Begins bytes (Text inner) rest = (length inner < 10 ^ 9) × (bytes ≡ frame inner ++ rest)
Begins bytes Cut rest = ⊥
Begins bytes BadFrame rest = ⊥
Begins bytes Long rest = ⊥

-- the items of an input that is within the limit. Nothing is read behind a fault
abbrev pub IsItems : List ℕ → List Item → Type 0
IsItems input [] = input ≡ []
IsItems input (Header ∷ items) = (rest : List ℕ) × Begins input Header rest × IsItems rest items
IsItems input (Text inner ∷ items) = (rest : List ℕ) × Begins input (Text inner) rest × IsItems rest items
IsItems input (Cut ∷ items) = (0 < length input) × IsFront input × (items ≡ [])
IsItems input (BadFrame ∷ items) = IsBad input × (items ≡ [])
IsItems input (Long ∷ items) = ⊥

-- the items where more bytes come than are judged: Long stands where the judged bytes end, unless a BadFrame stands before
abbrev pub long_of : List Item → List Item
long_of [] = Long ∷ []
long_of (Header ∷ items) = Header ∷ long_of items
long_of (Text inner ∷ items) = Text inner ∷ long_of items
long_of (Cut ∷ items) = Long ∷ []
long_of (BadFrame ∷ items) = BadFrame ∷ []
long_of (Long ∷ items) = Long ∷ []

-- the items of an input that begins with these bytes and goes on with more, of which so many are judged
pub record IsJudged (limit : ℕ) (kept more : List ℕ) (items : List Item) : Type 0 where
  pub within : length more ≤ limit → IsItems (kept ++ more) items
  pub longer : limit < length more → (found : List Item) × IsItems (kept ++ take limit more) found × (items ≡ long_of found)

-- the items of a bundle, of which as many bytes are judged as a team file may have
abbrev pub IsBundle : List ℕ → List Item → Type 0
IsBundle input items = IsJudged most_file_bytes [] input items
