-- What a reader of the lines at the front of a text answers, and what it leaves. Only private contracts cite it.
use Rattle.std.specs.Prelude.{◌≡◌, ◌≢◌, List, ℕ, [], ◌++◌, ◌∷◌, codes, flat_map, Result, Ok, Err, IfOk, OnOk}
use Rattle.tg_text.specs.declared.keys.KeyLines.{KeyLines}
use Rattle.link_text.specs.LinkText.{box_line, new_line}
use Rattle.link_text.specs.declared.fault.LineFault.{LineFault}
use Rattle.link_text.specs.declared.fault.LineFault.TheVariants.{BadText, Memory}

-- The value is answered and the rest is left, unless memory is short.
abbrev pub GivesAndLeaves : {X : Type 0} → X → List ℕ → List ℕ → Result X LineFault → Type 0
GivesAndLeaves x rest new (Ok y) = (y ≡ x) × (new ≡ rest)
GivesAndLeaves x rest new (Err e) = e ≡ Memory

-- What is found is in its range, and the old text is its spelling and the new text. Whatever is in its range is found where it
-- is spelled so, with anything after it.
pub record Takes {X : Type 0} (IsX : X → Type 0) (spell : X → List ℕ) (old new : List ℕ) (result : Result X LineFault) : Type 0 where
  pub found : IfOk result (λ x. IsX x × (old ≡ spell x ++ new))
  pub only : (x : X) (rest : List ℕ) → IsX x → old ≡ spell x ++ rest → GivesAndLeaves x rest new result

-- The same of lines of which there may be any number: where their kind goes on, they do.
pub record TakesAll {X : Type 0} (IsX : X → Type 0) (spell : X → List ℕ) (IsEnd : List ℕ → Type 0) (old new : List ℕ) (result : Result X LineFault) : Type 0 where
  pub found : IfOk result (λ x. IsX x × (old ≡ spell x ++ new))
  pub only : (x : X) (rest : List ℕ) → IsX x → IsEnd rest → old ≡ spell x ++ rest → GivesAndLeaves x rest new result

-- The value that the field spells was added after the others. Where it spells none, that is the fault.
pub record Adds {X : Type 0} (IsX : X → Type 0) (spell : X → List ℕ) (field : List ℕ) (old new : List X) (result : Result (Unit {0}) LineFault) : Type 0 where
  pub added : OnOk result ((x : X) × IsX x × (field ≡ spell x) × (new ≡ old ++ x ∷ []))
  pub only : result ≡ Err BadText → (x : X) → IsX x → field ≢ spell x

-- The lines of keys: the new keys stand before the boxes.
abbrev pub key_lines : KeyLines → List ℕ
key_lines lines = flat_map new_line lines.news ++ flat_map box_line lines.boxes

-- No line of the word stands at the front.
abbrev pub HasNoLine : List ℕ → List ℕ → Type 0
HasNoLine word rest = (field more : List ℕ) → rest ≢ word ++ 32 ∷ (field ++ 10 ∷ more)

-- No line of a parent stands at the front,
abbrev pub HasNoParent : List ℕ → Type 0
HasNoParent rest = HasNoLine (codes "prev") rest

-- nor that of a new key,
abbrev pub HasNoNew : List ℕ → Type 0
HasNoNew rest = HasNoLine (codes "new") rest

-- nor that of a box,
abbrev pub HasNoBox : List ℕ → Type 0
HasNoBox rest = HasNoLine (codes "box") rest

-- nor any line of keys.
abbrev pub HasNoKeyLine : List ℕ → Type 0
HasNoKeyLine rest = HasNoNew rest × HasNoBox rest
