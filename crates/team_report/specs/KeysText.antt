-- What `keys` prints: a line for each key that a device opens, each key once.
use Rattle.std.specs.Prelude.{ℕ, Bool, if◌then◌else◌, List, [], ◌∷◌, ◌++◌, flat_map, map}
use Rattle.team_sets.specs.Closure.{has}
use Rattle.tg_text.specs.KeySpelling.{spell_key_id}
use Rattle.tg_text.specs.Spelling.{line_of}
use Rattle.tg_text.specs.declared.keys.KeyId.{KeyId}
use Rattle.key_reach.specs.Keys.{same_key}
use Rattle.lockboxes.specs.declared.opened.Opened.{Opened}

module _ {A : Type 0} (same : A → A → Bool) where
  -- these, and then one more, where it isn't among them
  abbrev pub with_one : List A → A → List A
  with_one xs x = if has same xs x then xs else xs ++ x ∷ []

  -- these, and then those, each where it stands first
  abbrev pub with_all : List A → List A → List A
  with_all xs [] = xs
  with_all xs (y ∷ ys) = with_all (with_one xs y) ys

abbrev pub key_line : KeyId → List ℕ
key_line k = line_of (spell_key_id k ∷ [])

-- the keys of opened pairs, each once
abbrev pub opened_keys : List Opened → List KeyId
opened_keys pairs = with_all same_key [] (map (λ o. o.key) pairs)

abbrev pub keys_text : List Opened → List ℕ
keys_text pairs = flat_map key_line (opened_keys pairs)
