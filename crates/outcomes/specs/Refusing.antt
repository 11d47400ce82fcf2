-- How a file is opened: it is refused, with status 3 and a line that names it, or something is done with what it holds.
use Rattle.std.specs.Prelude.{◌≡◌, ℕ, List, ◌++◌, Option, Some, None, Result, Ok, Err, codes}
use Rattle.std.specs.FinMap as fin
use Rattle.tg_outside.specs.Contents.{FileMap}
use Rattle.outcomes.specs.declared.answer.Answer.{Answer}
use Rattle.outcomes.specs.declared.refusing.FileWord.{FileWord}
use Rattle.outcomes.specs.declared.refusing.FileWord.TheVariants.{NoFile, Exists, BadFile, BadKeyFile}
use Rattle.outcomes.specs.declared.stop.Stop.{Stop}
use Rattle.outcomes.specs.declared.stop.Stop.TheVariants.{Refused, Failed, Memory}
use Rattle.outcomes.specs.Steps.{World, Outcome, saying}

abbrev pub spell_word : FileWord → List ℕ
spell_word NoFile = codes "NoFile"
spell_word Exists = codes "Exists"
spell_word BadFile = codes "BadFile"
spell_word BadKeyFile = codes "BadKeyFile"

-- the line of a fault of a file
abbrev pub fault_line : List ℕ → FileWord → List ℕ
fault_line name word = codes "fault " ++ name ++ codes " " ++ spell_word word ++ codes "\n"

-- a file is refused with a word, or holds something
pub data Found (X : Type 0) : Type 0 where
  refuses : FileWord → Found X
  holds : X → Found X

abbrev pub by_found : {X : Type 0} → List ℕ → (X → World → Outcome → Type 0) → Found X → World → Outcome → Type 0
by_found name then (refuses word) w o = o ≡ saying 3 (fault_line name word)
by_found name then (holds x) w o = then x w o

-- A file is opened: it is refused, or `then` is done with what it holds. `Finds` says what is found of its bytes.
abbrev pub opening : {X : Type 0} → (Option (List ℕ) → Found X → Type 0) → List ℕ → (X → World → Outcome → Type 0) → World → Outcome → Type 0
opening {X} Finds name then w o = (x : Found X) × Finds (fin.get w.files name) x × by_found name then x w o

-- what is answered where a file is opened
abbrev pub IsFound : {X : Type 0} → (Option (List ℕ) → Found X → Type 0) → FileMap → List ℕ → Result X Stop → Type 0
IsFound Finds m name (Ok x) = Finds (fin.get m name) (holds x)
IsFound Finds m name (Err (Refused a)) = (word : FileWord) × Finds (fin.get m name) (refuses word) × (a.status ≡ 3) × (a.text ≡ fault_line name word)
IsFound Finds m name (Err Failed) = Unit {0}
IsFound Finds m name (Err Memory) = Unit {0}

-- a stop that is a fault of a file, or want of memory
abbrev pub IsFaultOf : List ℕ → FileWord → Stop → Type 0
IsFaultOf name word (Refused a) = (a.status ≡ 3) × (a.text ≡ fault_line name word)
IsFaultOf name word Failed = ⊥
IsFaultOf name word Memory = Unit {0}

-- a refusal has this status
abbrev pub RefusesWith : {T : Type 0} → ℕ → Result T Stop → Type 0
RefusesWith status (Ok x) = Unit {0}
RefusesWith status (Err (Refused a)) = a.status ≡ status
RefusesWith status (Err Failed) = Unit {0}
RefusesWith status (Err Memory) = Unit {0}

-- a file of any bytes must be there
abbrev pub FindsBytes : Option (List ℕ) → Found (List ℕ) → Type 0
FindsBytes None (refuses word) = word ≡ NoFile
FindsBytes None (holds bytes) = ⊥
FindsBytes (Some found) (refuses word) = ⊥
FindsBytes (Some found) (holds bytes) = bytes ≡ found

-- a file must be absent
abbrev pub FindsNone : Option (List ℕ) → Found (Unit {0}) → Type 0
FindsNone None (refuses word) = ⊥
FindsNone None (holds none) = Unit {0}
FindsNone (Some found) (refuses word) = word ≡ Exists
FindsNone (Some found) (holds none) = ⊥
