-- The text of a team file: the header, and a frame for each link in ascending order of names.
use Rattle.std.specs.List.{AllByRecursion}
use Rattle.std.specs.Prelude.{◌≡◌, ℕ, ◌≤◌, List, [], ◌∷◌, ◌++◌, length, codes, flat_map}
use Rattle.tg_text.specs.Limits.{most_file_bytes, most_links}
use Rattle.tg_text.specs.Spelling.{spell_decimal, spell_hex, line_of, IsHash}
use Rattle.team_sets.specs.Names.{Name, name_lt, ascending}
use Rattle.team_sets.specs.Members.{HaveSameMembers}
use Rattle.team_sets.specs.OrderLaws.{IsSet}
use Rattle.team_model.specs.Judging.{name_of}
use Rattle.team_model.specs.declared.terms.Link.{Link}
use Rattle.link_text.specs.LinkText.{text, IsValid}

abbrev pub header : Name → List ℕ
header t = line_of (codes "team-file" ∷ codes "1" ∷ spell_hex t ∷ [])

abbrev pub frame : List ℕ → List ℕ
frame bytes = line_of (codes "link" ∷ spell_decimal (length bytes) ∷ []) ++ bytes

abbrev pub by_name : List Link → List Link
by_name links = ascending (λ a b. name_lt a.name b.name) links

abbrev pub file_text : Name → List Link → List ℕ
file_text t links = header t ++ flat_map (λ l. frame (text l)) (by_name links)

-- A set of valid links of one team within the limits: none stands twice, and no two have one name.
pub record IsHeld (t : Name) (links : List Link) : Type 0 where
  pub team : IsHash t
  pub valid : AllByRecursion (λ l. IsValid t (text l) l) links
  pub set : IsSet name_of links
  pub few : length links ≤ most_links
  pub short : length (file_text t links) ≤ most_file_bytes

-- The bytes are the file of this held set.
pub record IsFileOf (bytes : List ℕ) (t : Name) (links : List Link) : Type 0 where
  pub held : IsHeld t links
  pub is_text : bytes ≡ file_text t links

-- The file depends on which links are in the set alone.
abbrev pub FileIsOfSet : Type 0
FileIsOfSet = (t : Name) (links others : List Link) → IsSet name_of links → IsSet name_of others → HaveSameMembers links others
    → file_text t links ≡ file_text t others
