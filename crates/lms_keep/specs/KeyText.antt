-- The text of a key file, and which keys have one.
use Rattle.std.specs.Prelude.{◌≡◌, ◌≤◌, ℕ, List, [], ◌∷◌, ◌++◌, length, codes, IsTrue}
use Rattle.std.specs.Option.{option_map_or}
use Rattle.tg_text.specs.Spelling.{spell_decimal, spell_hex, line_of, spaced, is_user_name, AreBytes, IsHash}
use Rattle.lms_tree.specs.LmsKinds.{lms_kind, leaves_of}
use Rattle.lms_keep.specs.declared.key_state.KeyState.{KeyState}

-- the lines of a key file, each a list of fields
abbrev pub first_line : List (List ℕ)
first_line = codes "team-key" ∷ codes "1" ∷ []

abbrev pub user_line : List ℕ → List ℕ
user_line u = line_of (codes "user" ∷ u ∷ [])

abbrev pub kinds_field : ℕ → ℕ → List ℕ
kinds_field lms ots = spaced (spell_decimal lms ∷ spell_decimal ots ∷ [])

abbrev pub kinds_line : ℕ → ℕ → List ℕ
kinds_line lms ots = line_of (codes "kinds" ∷ spell_decimal lms ∷ spell_decimal ots ∷ [])

abbrev pub id_line : List ℕ → List ℕ
id_line id = line_of (codes "id" ∷ spell_hex id ∷ [])

abbrev pub seed_line : List ℕ → List ℕ
seed_line seed = line_of (codes "seed" ∷ spell_hex seed ∷ [])

abbrev pub secret_line : List ℕ → List ℕ
secret_line secret = line_of (codes "secret" ∷ spell_hex secret ∷ [])

abbrev pub next_line : ℕ → List ℕ
next_line n = line_of (codes "next" ∷ spell_decimal n ∷ [])

abbrev pub key_text : KeyState → List ℕ
key_text s =
    line_of first_line ++ user_line s.user ++ kinds_line s.lms s.ots ++ id_line s.id ++ seed_line s.seed
    ++ secret_line s.secret ++ next_line s.next

-- the type numbers of keys: LMS_SHA256_M32_H5 to H15, and any LM-OTS type
abbrev pub AreKinds : ℕ → ℕ → Type 0
AreKinds lms ots = (5 ≤ lms) × (lms ≤ 7) × (1 ≤ ots) × (ots ≤ 4)

-- 16 bytes
pub record IsId (id : List ℕ) : Type 0 where
  pub size : length id ≡ 16
  pub bytes : AreBytes id

-- how many leaves the trees of a type number have
abbrev pub leaves : ℕ → ℕ
leaves lms = option_map_or leaves_of (lms_kind lms) 0

-- the fields are in their ranges
pub record IsKeyState (s : KeyState) : Type 0 where
  pub user : IsTrue (is_user_name s.user)
  pub kinds : AreKinds s.lms s.ots
  pub id : IsId s.id
  pub seed : IsHash s.seed
  pub secret : IsHash s.secret
  pub next : s.next ≤ leaves s.lms

-- the bytes are the key file of this key
pub record IsKeyFile (bytes : List ℕ) (s : KeyState) : Type 0 where
  pub range : IsKeyState s
  pub is_text : bytes ≡ key_text s

-- no two keys have one text
abbrev pub KeyIsSpelledOnce : Type 0
KeyIsSpelledOnce = (s t : KeyState) → IsKeyState s → IsKeyState t → key_text s ≡ key_text t → s ≡ t
