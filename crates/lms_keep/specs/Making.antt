-- How a key is made of words that are drawn.
use Rattle.std.specs.Prelude.{◌≡◌, ◌<◌, ℕ, List, [], ◌∷◌, Option, Result, Ok, Err, length, take, IsTrue}
use Rattle.tg_outside.specs.Contents.{DrawsAll}
use Rattle.tg_outside.specs.declared.fault.MakeFault.{MakeFault}
use Rattle.tg_outside.specs.declared.fault.MakeFault.TheVariants.{EntropyFault, Memory}
use Rattle.tg_text.specs.Spelling.{IsHash, is_user_name}
use Rattle.lms_keep.specs.KeyText.{IsKeyFile, key_text}
use Rattle.lms_keep.specs.declared.key_state.KeyState.{KeyState}

-- The key of three words, of which no leaf has signed: LMS_SHA256_M32_H10 and LMOTS_SHA256_N32_W4. The id is the first 16 bytes of
-- the first word, the seed the second, and the sealing secret the third.
abbrev pub new_key : List ℕ → List ℕ → List ℕ → List ℕ → KeyState
new_key user first second third = record { user = user; lms = 6; ots = 3; id = take 16 first; seed = second; secret = third; next = 0 }

-- The text of a key made of three words of 32 bytes is that key's file.
abbrev pub NewKeyHasAFile : Type 0
NewKeyHasAFile = (user first second third : List ℕ) → IsTrue (is_user_name user) → IsHash first → IsHash second → IsHash third
    → IsKeyFile (key_text (new_key user first second third)) (new_key user first second third)

-- Three words were drawn, and the key is that of them; or fewer were, and a draw failed.
abbrev pub MakesKey : Option (List (List ℕ)) → Option (List (List ℕ)) → List ℕ → Result KeyState MakeFault → Type 0
MakesKey old new user (Ok s) =
    (first : List ℕ) × (second : List ℕ) × (third : List ℕ) × DrawsAll old new (first ∷ second ∷ third ∷ []) × (s ≡ new_key user first second third)
MakesKey old new user (Err EntropyFault) = (words : List (List ℕ)) × (length words < 3) × DrawsAll old new words
MakesKey old new user (Err Memory) = ⊥
