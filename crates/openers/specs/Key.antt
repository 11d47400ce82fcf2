-- What is found of a file that is to be a key's.
use Rattle.std.specs.Prelude.{◌≡◌, ℕ, List, Option, Some, None}
use Rattle.lms_keep.specs.KeyText.{IsKeyFile}
use Rattle.lms_keep.specs.declared.key_state.KeyState.{KeyState}
use Rattle.outcomes.specs.Refusing.{Found, refuses, holds}
use Rattle.outcomes.specs.declared.refusing.FileWord.TheVariants.{NoFile, BadKeyFile}

-- a key file must be there; whether a leaf is left isn't asked
abbrev pub FindsKey : Option (List ℕ) → Found KeyState → Type 0
FindsKey None (refuses word) = word ≡ NoFile
FindsKey None (holds s) = ⊥
FindsKey (Some bytes) (refuses word) = ((s : KeyState) → ¬ (IsKeyFile bytes s)) × (word ≡ BadKeyFile)
FindsKey (Some bytes) (holds s) = IsKeyFile bytes s
