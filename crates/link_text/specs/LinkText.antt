-- The text of a link, which links are well-formed, which verify, and of which team a link is.
use Rattle.std.specs.List.{AllByRecursion}
use Rattle.std.specs.Prelude.{◌≡◌, ◌<◌, ◌^◌, ℕ, ◌≤◌, ◌↔◌, Bool, true, ◌&&◌, List, [], ◌∷◌, ◌++◌, length, codes, flat_map, Option, IsTrue, IsNone, MatchOption}
use Rattle.std.specs.Option.{option_map_or}
use Rattle.sha2.specs.Sha256.{sha256}
use Rattle.lms_tree.specs.Verifying.{verifies}
use Rattle.team_sets.specs.Names.{Name, name_lt}
use Rattle.tg_text.specs.KeySpelling.{spell_key_id}
use Rattle.tg_text.specs.Limits.{most_link_bytes}
use Rattle.tg_text.specs.Spelling.{spell_decimal, spell_hex, spell_base64, spaced, line_of, is_user_name, AreBytes, IsHash, IsPublicKey}
use Rattle.tg_text.specs.declared.keys.KeyId.{KeyId}
use Rattle.tg_text.specs.declared.keys.BoxLine.{BoxLine}
use Rattle.acts.specs.ActText.{act_words, IsActInRange, IsFound}
use Rattle.acts.specs.ProofText.{proof_body}
use Rattle.acts.specs.declared.entry.Act.{Act}
use Rattle.acts.specs.declared.entry.Act.TheVariants.{AdmitMember, AdmitDevice}
use Rattle.acts.specs.declared.entry.Entry.{Entry}
use Rattle.acts.specs.declared.entry.InviteKind.TheVariants.{Member, Device}
use Rattle.team_model.specs.declared.terms.Link.{Link}
use Rattle.link_text.specs.KeyRanges.{AreKeyLines}

-- The lines of a link, each a list of fields.
abbrev pub first_line : List (List ℕ)
first_line = codes "team-link" ∷ codes "1" ∷ []

-- The team's name, or `-` where a link names none.
abbrev pub team_field : Option Name → List ℕ
team_field o = option_map_or (λ t. spell_hex t) o (codes "-")

abbrev pub team_line : Option Name → List ℕ
team_line o = line_of (codes "team" ∷ team_field o ∷ [])

abbrev pub prev_line : Name → List ℕ
prev_line p = line_of (codes "prev" ∷ spell_hex p ∷ [])

abbrev pub user_line : Name → List ℕ
user_line u = line_of (codes "user" ∷ u ∷ [])

abbrev pub key_line : List ℕ → List ℕ
key_line k = line_of (codes "key" ∷ spell_base64 k ∷ [])

abbrev pub time_line : ℕ → List ℕ
time_line n = line_of (codes "time" ∷ spell_decimal n ∷ [])

abbrev pub act_line : Act → List ℕ
act_line a = line_of (codes "act" ∷ act_words a)

abbrev pub new_line : KeyId → List ℕ
new_line k = line_of (codes "new" ∷ spell_key_id k ∷ [])

-- The key that a box is sealed to, that whose secret it has, and the sealed bytes.
abbrev pub box_words : BoxLine → List (List ℕ)
box_words b = spell_key_id b.to ∷ spell_key_id b.of ∷ spell_base64 b.bytes ∷ []

abbrev pub spell_box : BoxLine → List ℕ
spell_box b = spaced (box_words b)

abbrev pub box_line : BoxLine → List ℕ
box_line b = line_of (codes "box" ∷ box_words b)

abbrev pub sign_line : List ℕ → List ℕ
sign_line s = line_of (codes "sign" ∷ spell_base64 s ∷ [])

-- All before the line of the signature: what is signed.
abbrev pub body : Link → List ℕ
body l =
    line_of first_line ++ team_line l.team ++ flat_map prev_line l.prev ++ user_line l.entry.user ++ key_line l.key
    ++ time_line l.entry.time ++ act_line l.entry.act ++ flat_map new_line l.entry.lines.news ++ flat_map box_line l.entry.lines.boxes

abbrev pub text : Link → List ℕ
text l = body l ++ sign_line l.signature

-- Each name is before the next.
abbrev pub Ascends : List Name → Type 0
Ascends [] = Unit {0}
Ascends (n ∷ []) = Unit {0}
Ascends (n ∷ m ∷ ms) = IsTrue (name_lt n m) × Ascends (m ∷ ms)

abbrev pub IsTeam : Option Name → Type 0
IsTeam o = MatchOption o (Unit {0}) IsHash

-- Each field of the link is in its range. The ranges of bytes and numbers stand here too, since a link of a law is any value.
pub record HasFields (l : Link) : Type 0 where
  pub team : IsTeam l.team
  pub parents : AllByRecursion IsHash l.prev
  pub user : IsTrue (is_user_name l.entry.user)
  pub key : IsPublicKey l.key
  pub device : l.entry.device ≡ sha256 l.key
  pub time : l.entry.time < 2 ^ 64
  pub act : IsActInRange l.entry.act
  pub key_lines : AreKeyLines l.entry.lines
  pub signature_bytes : AreBytes l.signature

-- The link keeps the rules on its fields together.
pub record KeepsRules (l : Link) : Type 0 where
  pub few_parents : length l.prev ≤ 64
  pub parents_ascend : Ascends l.prev
  pub root_without_parents : (l.prev ≡ []) ↔ IsNone l.team
  pub root_founds : (l.prev ≡ []) ↔ IsFound l.entry.act

-- The fields of the link are in their ranges, it keeps the rules on them, and its text isn't too long.
pub record IsWellFormed (l : Link) : Type 0 where
  pub fields : HasFields l
  pub rules : KeepsRules l
  pub fits : length (text l) ≤ most_link_bytes

-- The bytes spell the link, whatever the rules on fields together say of it.
pub record Spells (bytes : List ℕ) (l : Link) : Type 0 where
  pub is_text : bytes ≡ text l
  pub fields : HasFields l
  pub name : l.name ≡ sha256 bytes

-- The bytes are the text of the link, which is well-formed, and its name is their SHA-256.
pub record Reads (bytes : List ℕ) (l : Link) : Type 0 where
  pub is_text : bytes ≡ text l
  pub well_formed : IsWellFormed l
  pub name : l.name ≡ sha256 bytes

-- Whether the proof of an admission verifies under the invitation's key, over its proof body with this team. Other acts show none.
abbrev pub is_admitted : Name → Entry → Act → Bool
is_admitted team e (AdmitMember user key seal by proof) = verifies by (proof_body (record { team = team; kind = Member; user = user; key = key; seal = seal })) proof
is_admitted team e (AdmitDevice key seal by proof) = verifies by (proof_body (record { team = team; kind = Device; user = e.user; key = key; seal = seal })) proof
is_admitted team e _ = true

-- Whether an admission that the link makes is proved. A link that names no team founds one, and makes none.
abbrev pub has_proof : Link → Bool
has_proof l = option_map_or (λ team. is_admitted team l.entry l.entry.act) l.team true

-- Whether the signature verifies over the body under the author's key, and an admission is proved.
abbrev pub proves : Link → Bool
proves l = verifies l.key (body l) l.signature && has_proof l

-- The bytes are the link: they are its text, and it proves what it says.
pub record IsLink (bytes : List ℕ) (l : Link) : Type 0 where
  pub reads : Reads bytes l
  pub proved : proves l ≡ true

-- The link is of the team: it names it, or it is the root whose name it is.
abbrev pub IsOfTeam : Name → Link → Type 0
IsOfTeam t l = MatchOption l.team (l.name ≡ t) (λ named. named ≡ t)

-- The bytes are valid for the team: they are a link of it.
pub record IsValid (t : Name) (bytes : List ℕ) (l : Link) : Type 0 where
  pub reads : Reads bytes l
  pub of_team : IsOfTeam t l
  pub proved : proves l ≡ true

-- A text has one link: each well-formed link has a spelling of its own.
abbrev pub LinkIsSpelledOnce : Type 0
LinkIsSpelledOnce = (bytes : List ℕ) (l k : Link) → Reads bytes l → Reads bytes k → l ≡ k
