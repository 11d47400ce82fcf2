-- What `newkey KEYFILE USER` does.
use Rattle.std.specs.Prelude.{◌≡◌, ℕ, List, [], ◌∷◌, ◌++◌, codes}
use Rattle.sha2.specs.Sha256.{sha256}
use Rattle.tg_text.specs.Spelling.{line_of, spell_base64, spell_hex}
use Rattle.lms_tree.specs.Signatures.{public_key}
use Rattle.lms_keep.specs.KeyText.{key_text}
use Rattle.lms_keep.specs.Making.{new_key}
use Rattle.lms_keep.specs.Signing.{tree_key}
use Rattle.lms_keep.specs.declared.key_state.KeyState.{KeyState}
use Rattle.outcomes.specs.Refusing.{FindsNone, opening}
use Rattle.outcomes.specs.Steps.{World, Outcome, acting, drawn, put}
use Rattle.team_words.specs.declared.command.Command.{Command}
use Rattle.team_words.specs.declared.command.Command.TheVariants.{Newkey}

-- the key that is made of the next three words
abbrev pub drawn_key : List ℕ → World → KeyState
drawn_key user w = new_key user (drawn 0 w) (drawn 1 w) (drawn 2 w)

-- The id of the device, its public key, and the public key of its sealing secret: what others need to know of it.
abbrev pub newkey_text : (List ℕ → List ℕ) → KeyState → List ℕ
newkey_text public_of s =
    line_of (codes "device" ∷ spell_hex (sha256 (public_key (tree_key s))) ∷ []) ++ line_of (codes "key" ∷ spell_base64 (public_key (tree_key s)) ∷ [])
    ++ line_of (codes "seal" ∷ spell_hex (public_of s.secret) ∷ [])

-- three words are drawn, and the file of their key is written, of which no leaf has signed
abbrev pub making : (List ℕ → List ℕ) → List ℕ → KeyState → Outcome
making public_of key_file s = acting 0 3 (put key_file (key_text s) ∷ []) (newkey_text public_of s)

-- The key file must be absent. `public_of` gives the public key of a sealing secret
abbrev pub newkeys : (List ℕ → List ℕ) → List ℕ → List ℕ → World → Outcome → Type 0
newkeys public_of key_file user = opening FindsNone key_file (λ none w o. o ≡ making public_of key_file (drawn_key user w))

abbrev pub does_newkey : (List ℕ → List ℕ) → Command → World → Outcome → Type 0
does_newkey public_of (Newkey key_file user) w o = newkeys public_of key_file user w o
does_newkey public_of _ w o = ⊥
