-- The messages by which two ends of a team exchange links, as texts.
use Rattle.std.specs.Prelude.{◌≡◌, ℕ, ◌≤◌, ◌<◌, ◌^◌, Bool, cond, List, [], ◌∷◌, ◌++◌, length, codes, flat_map}
use Rattle.std.specs.List.{AllByRecursion}
use Rattle.tg_text.specs.Spelling.{IsHash, line_of, spell_hex}
use Rattle.team_sets.specs.Names.{Name}
use Rattle.link_text.specs.LinkText.{Ascends}
use Rattle.link_text.specs.TeamFile.{frame}

-- What a message says: the heads of its sender; the names that are asked for, with the heads of the one who asks as marks; texts of
-- links, and whether more of them follow in a further message; or that its sender is done, with its heads.
pub data Content : Type 0 where
  hello : List Name → Content
  ask : List Name → List Name → Content
  give : Bool → List (List ℕ) → Content
  done : List Name → Content

-- How many links a message gives at most.
abbrev pub most_given_links : ℕ
most_given_links = 64

-- How many bytes of text an end puts into a message that gives links. One that takes them asks no such thing.
abbrev pub most_given_bytes : ℕ
most_given_bytes = 4194304

-- The word of a message's kind stands last in its first line.
abbrev pub kind_word : Content → List ℕ
kind_word (hello heads) = codes "hello"
kind_word (ask names marks) = codes "ask"
kind_word (give more texts) = codes "give"
kind_word (done heads) = codes "done"

abbrev pub kind_line : List ℕ → List ℕ
kind_line word = line_of (codes "team-sync 1" ∷ word ∷ [])

abbrev pub team_line : Name → List ℕ
team_line team = line_of (codes "team" ∷ spell_hex team ∷ [])

-- A line of a word and a name.
abbrev pub name_line : List ℕ → Name → List ℕ
name_line word name = line_of (word ∷ spell_hex name ∷ [])

-- One line a name, each with this word.
abbrev pub name_lines : List ℕ → List Name → List ℕ
name_lines word names = flat_map (name_line word) names

abbrev pub more_word : Bool → List ℕ
more_word more = cond more (codes "yes") (codes "no")

abbrev pub more_line : Bool → List ℕ
more_line more = line_of (codes "more" ∷ more_word more ∷ [])

-- Texts stand in frames, as in a bundle.
abbrev pub frames_of : List (List ℕ) → List ℕ
frames_of texts = flat_map frame texts

-- The lines after those of the kind and of the team.
abbrev pub content_text : Content → List ℕ
content_text (hello heads) = name_lines (codes "head") heads
content_text (ask names marks) = name_lines (codes "name") names ++ name_lines (codes "mark") marks
content_text (give more texts) = more_line more ++ frames_of texts
content_text (done heads) = name_lines (codes "head") heads

-- The text of a message to a team.
abbrev pub message_text : Name → Content → List ℕ
message_text team c = kind_line (kind_word c) ++ (team_line team ++ content_text c)

-- Names of links, each before the next.
pub record AreNames (names : List Name) : Type 0 where
  pub hashes : AllByRecursion IsHash names
  pub ascend : Ascends names

-- Texts that one message may give: they are any bytes, and the length of each has at most nine digits.
pub record AreGiven (texts : List (List ℕ)) : Type 0 where
  pub few : length texts ≤ most_given_links
  pub short : AllByRecursion (λ t. length t < 10 ^ 9) texts

-- What a message says is in its range. At least one name is asked for.
abbrev pub IsContent : Content → Type 0
IsContent (hello heads) = AreNames heads
IsContent (ask names marks) = AreNames names × (0 < length names) × AreNames marks
IsContent (give more texts) = AreGiven texts
IsContent (done heads) = AreNames heads

-- The bytes are a message to the team, and say this.
pub record IsMessage (bytes : List ℕ) (t : Name) (c : Content) : Type 0 where
  pub team : IsHash t
  pub content : IsContent c
  pub is_text : bytes ≡ message_text t c

-- Bytes are a message to one team, and say one thing.
abbrev pub MessageIsReadOnce : Type 0
MessageIsReadOnce = (bytes : List ℕ) (t u : Name) (c d : Content) → IsMessage bytes t c → IsMessage bytes u d → (t ≡ u) × (c ≡ d)
