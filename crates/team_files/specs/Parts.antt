-- What is found at the front of bytes, and what a run over whole items leaves.
use Rattle.std.specs.Prelude.{◌≡◌, ℕ, ◌<◌, ◌^◌, ◌⊎◌, Bool, true, false, List, [], ◌∷◌, ◌++◌}
use Rattle.tg_text.specs.Spelling.{IsHash, has_newline}
use Rattle.link_text.specs.TeamFile.{header}
use Rattle.team_files.specs.declared.item.Item.{Item}
use Rattle.team_files.specs.declared.item.Item.TheVariants.{BadFrame, Long}
use Rattle.team_files.specs.declared.first.First.{First}
use Rattle.team_files.specs.declared.first.First.TheVariants as first
use Rattle.team_files.specs.declared.next.Next.{Next}
use Rattle.team_files.specs.declared.next.Next.TheVariants as next
use Rattle.team_files.specs.declared.next.End.{End}
use Rattle.team_files.specs.declared.next.End.TheVariants as end_
use Rattle.team_files.specs.Bundles.{length_line, IsFront, IsBad, Begins}

-- what the bytes begin with: a header line, a frame's first line, less than a line, or no item
abbrev pub IsFirst : List ℕ → First → Type 0
IsFirst bytes (first.Header rest) = (team : List ℕ) × IsHash team × (bytes ≡ header team ++ rest.now)
IsFirst bytes (first.Frame n rest) = (n < 10 ^ 9) × (bytes ≡ length_line n ++ rest.now)
IsFirst bytes first.Open = (has_newline bytes ≡ false) × IsFront bytes
IsFirst bytes first.Bad = IsBad bytes

-- the item that the bytes begin with, less than an item, or no item
abbrev pub IsNext : List ℕ → Next → Type 0
IsNext bytes (next.Whole item rest) = Begins bytes item rest.now
IsNext bytes next.Open = IsFront bytes
IsNext bytes next.Bad = IsBad bytes

-- the bytes are the texts of these items with the rest behind
abbrev pub IsRun : List ℕ → List Item → List ℕ → Type 0
IsRun bytes [] rest = bytes ≡ rest
IsRun bytes (item ∷ items) rest = (behind : List ℕ) × Begins bytes item behind × IsRun behind items rest

-- where a run of whole items ends: in front of an unfinished item, or where no item begins
abbrev pub IsRunTo : List ℕ → List Item → End → Type 0
IsRunTo bytes items end_.Kept = ⊥
IsRunTo bytes items (end_.Front rest) = IsRun bytes items rest.now × IsFront rest.now
IsRunTo bytes items end_.Bad = (rest : List ℕ) × IsRun bytes items rest × IsBad rest

-- the same, where the bytes that are kept may be all of an unfinished item
abbrev pub IsEnd : List ℕ → List ℕ → List Item → End → Type 0
IsEnd bytes kept items end_.Kept = (items ≡ []) × (kept ≡ bytes) × IsFront bytes
IsEnd bytes kept items (end_.Front rest) = IsRunTo bytes items (end_.Front rest)
IsEnd bytes kept items end_.Bad = IsRunTo bytes items end_.Bad

-- what reading judged bytes answers and keeps, where `long` says that more bytes came than are judged
abbrev pub IsRead : List ℕ → Bool → List Item → List ℕ → Bool → Type 0
IsRead bytes long items kept false = (long ≡ false) × IsRun bytes items kept × IsFront kept
IsRead bytes long items kept true = (some : List Item) × (rest : List ℕ) × IsRun bytes some rest
    × ((IsBad rest × (items ≡ some ++ BadFrame ∷ [])) ⊎ ((long ≡ true) × IsFront rest × (items ≡ some ++ Long ∷ [])))
