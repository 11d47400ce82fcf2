-- How scopes and key ids are spelled, and the ranges of their parts.
use Rattle.std.specs.Prelude.{ℕ, ◌≤◌, List, ◌++◌, codes, IsTrue}
use Rattle.tg_text.specs.Spelling.{spell_decimal, spell_hex, is_user_name, IsHash}
use Rattle.tg_text.specs.declared.keys.Scope.{Scope}
use Rattle.tg_text.specs.declared.keys.Scope.TheVariants.{Team, Role, User, Device}
use Rattle.tg_text.specs.declared.keys.KeyId.{KeyId}

-- A scope is spelled by its kind, and after a colon whose it is.
abbrev pub spell_scope : Scope → List ℕ
spell_scope Team = codes "team"
spell_scope (Role r) = codes "role:" ++ r
spell_scope (User u) = codes "user:" ++ u
spell_scope (Device d) = codes "device:" ++ spell_hex d

-- The name or the id of a scope is one.
abbrev pub IsScope : Scope → Type 0
IsScope Team = Unit {0}
IsScope (Role r) = IsTrue (is_user_name r)
IsScope (User u) = IsTrue (is_user_name u)
IsScope (Device d) = IsHash d

-- What stands between the parts of a key id.
abbrev pub slash : List ℕ
slash = codes "/"

-- A key id is spelled by its scope, its generation and its public half.
abbrev pub spell_key_id : KeyId → List ℕ
spell_key_id k = spell_scope k.scope ++ slash ++ spell_decimal k.generation ++ slash ++ spell_hex k.public

-- The last generation of the keys of a scope. A device has one key, of generation 0.
abbrev pub last_generation : Scope → ℕ
last_generation Team = 65534
last_generation (Role r) = 65534
last_generation (User u) = 65534
last_generation (Device d) = 0

-- A key id whose parts are in their ranges.
pub record IsKeyId (k : KeyId) : Type 0 where
  pub scope : IsScope k.scope
  pub generation : k.generation ≤ last_generation k.scope
  pub public : IsHash k.public
