-- The lines of token files and of proof files, each of a word and a field.
use Rattle.std.specs.Prelude.{ℕ, List, [], ◌∷◌, ◌++◌, Option, None, Some, codes, flat_map}
use Rattle.tg_text.specs.Spelling.{line_of, spell_base64, spell_decimal, spell_hex}
use Rattle.acts.specs.ActText.{spell_kind}
use Rattle.acts.specs.declared.entry.InviteKind.{InviteKind}

abbrev pub team_line : List ℕ → List ℕ
team_line team = line_of (codes "team" ∷ spell_hex team ∷ [])

abbrev pub kind_line : InviteKind → List ℕ
kind_line kind = line_of (codes "kind" ∷ spell_kind kind ∷ [])

-- A user's name, or a hyphen where no user is named.
abbrev pub user_field : Option (List ℕ) → List ℕ
user_field None = codes "-"
user_field (Some user) = user

abbrev pub user_line : List ℕ → List ℕ
user_line user = line_of (codes "user" ∷ user ∷ [])

abbrev pub key_line : List ℕ → List ℕ
key_line key = line_of (codes "key" ∷ spell_base64 key ∷ [])

abbrev pub leaf_line : ℕ → List ℕ
leaf_line leaf = line_of (codes "leaf" ∷ spell_decimal leaf ∷ [])

abbrev pub random_line : List ℕ → List ℕ
random_line random = line_of (codes "random" ∷ spell_hex random ∷ [])

abbrev pub seal_line : List ℕ → List ℕ
seal_line seal = line_of (codes "seal" ∷ spell_hex seal ∷ [])

abbrev pub by_line : List ℕ → List ℕ
by_line by = line_of (codes "by" ∷ spell_base64 by ∷ [])

abbrev pub sign_line : List ℕ → List ℕ
sign_line signature = line_of (codes "sign" ∷ spell_base64 signature ∷ [])

abbrev pub hash_line : List ℕ → List ℕ → List ℕ
hash_line word hash = line_of (word ∷ spell_hex hash ∷ [])

-- A line of the word for each hash, in order.
abbrev pub hash_lines : List ℕ → List (List ℕ) → List ℕ
hash_lines word hashes = flat_map (hash_line word) hashes
