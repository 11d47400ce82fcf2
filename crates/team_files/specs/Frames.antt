-- The frames of a team file, and what reading them answers.
use Rattle.std.specs.Prelude.{◌≡◌, ℕ, ◌+◌, ◌<◌, ◌≤◌, nat_lt, Bool, true, ◌&&◌, List, [], ◌∷◌, length, map, take, drop, codes, flat_map, IsTrue, Option, Some, None, Result, Ok, Err}
use Rattle.std.specs.List.{AllByRecursion}
use Rattle.std.specs.Option.{option_map_or}
use Rattle.tg_text.specs.Limits.{most_links}
use Rattle.tg_text.specs.Spelling.{spell_decimal, spell_hex, spaced}
use Rattle.team_sets.specs.Names.{Name, name_lt}
use Rattle.team_model.specs.Judging.{name_of}
use Rattle.team_model.specs.declared.terms.Link.{Link}
use Rattle.link_text.specs.LinkText.{text, Ascends, IsValid}
use Rattle.link_text.specs.TeamFile.{by_name, frame, IsFileOf}
use Rattle.link_graph.specs.Holds.{text_named}
use Rattle.team_files.specs.declared.fault.FileFault.{FileFault}
use Rattle.team_files.specs.declared.fault.FileFault.TheVariants.{BadFile, Memory}

-- the first line of a file, without its newline
abbrev pub header_fields : Name → List ℕ
header_fields t = spaced (codes "team-file" ∷ codes "1" ∷ spell_hex t ∷ [])

-- the first line of a frame, without its newline
abbrev pub length_fields : ℕ → List ℕ
length_fields n = spaced (codes "link" ∷ spell_decimal n ∷ [])

-- the frames of links, one behind the other
abbrev pub frames : List Link → List ℕ
frames links = flat_map (λ l. frame (text l)) links

-- the frame of the text of this name, if it is held
abbrev pub frame_named : List Link → Name → List ℕ
frame_named links n = option_map_or frame (text_named links n) []

-- the frames of the texts of names, one behind the other
abbrev pub frames_named : List Link → List Name → List ℕ
frames_named links ns = flat_map (frame_named links) ns

-- the name of the last link, if there is one
abbrev pub last_name : List Link → Option Name
last_name [] = None
last_name (x ∷ []) = Some x.name
last_name (x ∷ y ∷ ys) = last_name (y ∷ ys)

-- whether a name may stand after so many links, of which the last has this name
abbrev pub may_stand : ℕ → Option Name → Name → Bool
may_stand count last n = nat_lt count most_links && option_map_or (λ m. name_lt m n) last true

-- the name is after that of the last link, if there is one
abbrev pub IsBefore : List Link → Name → Type 0
IsBefore links n = IsTrue (option_map_or (λ m. name_lt m n) (last_name links) true)

-- a further link may stand behind the links
pub record MayFollow (links : List Link) (l : Link) : Type 0 where
  pub room : length links < most_links
  pub before : IsBefore links l.name

-- links of the team in strictly ascending order of names, no more than a team may have
pub record AreInOrder (t : Name) (links : List Link) : Type 0 where
  pub valid : AllByRecursion (λ l. IsValid t (text l) l) links
  pub ascend : Ascends (map name_of links)
  pub few : length links ≤ most_links

-- the text stands in the bytes from the offset on, and is so long
pub record StandsAt (bytes : List ℕ) (offset size : ℕ) (content : List ℕ) : Type 0 where
  pub within : offset + size ≤ length bytes
  pub is_there : take size (drop offset bytes) ≡ content

-- each pair is where the text of its link stands in the bytes, and how long it is
abbrev pub AreTexts : List ℕ → List (ℕ × ℕ) → List Link → Type 0
AreTexts bytes [] [] = Unit {0}
AreTexts bytes (f ∷ fs) (l ∷ ls) = StandsAt bytes f.0 f.1 (text l) × AreTexts bytes fs ls
AreTexts bytes [] (l ∷ ls) = ⊥
AreTexts bytes (f ∷ fs) [] = ⊥

-- The bytes are the file of these links, which stand in ascending order of names, and each pair is where the text of its link stands.
pub record IsViewOf (bytes : List ℕ) (t : Name) (places : List (ℕ × ℕ)) (links : List Link) : Type 0 where
  pub is_file : IsFileOf bytes t links
  pub ascend : by_name links ≡ links
  pub texts : AreTexts bytes places links

-- what may be answered where this is what is spelled
abbrev pub Gives : {X : Type 0} → X → Result X FileFault → Type 0
Gives x (Ok y) = y ≡ x
Gives x (Err Memory) = Unit {0}
Gives x (Err BadFile) = ⊥
