-- What readers answer.
use Rattle.std.specs.Prelude.{◌≡◌, ◌⊎◌, List, ℕ, ◌++◌, Option, Some, IfSome, Result, Ok, Err}

-- What is found is in its range and spelled so, and what is in its range and spelled so is found.
-- So there is no answer exactly where the text spells nothing in the range.
pub record Reads {X : Type 0} (IsX : X → Type 0) (spell : X → List ℕ) (text : List ℕ) (result : Option X) : Type 0 where
  pub found : IfSome result (λ x. IsX x × (text ≡ spell x))
  pub only : (x : X) → IsX x → text ≡ spell x → result ≡ Some x

-- What is taken off the front of a text is in its range, and the old text is its spelling and the new text. Whatever is in
-- its range is taken where it is spelled so, with anything after it.
pub record Takes {X : Type 0} (IsX : X → Type 0) (spell : X → List ℕ) (old new : List ℕ) (result : Option X) : Type 0 where
  pub found : IfSome result (λ x. IsX x × (old ≡ spell x ++ new))
  pub only : (x : X) (rest : List ℕ) → IsX x → old ≡ spell x ++ rest → (result ≡ Some x) × (new ≡ rest)

-- The value is answered, or want of memory.
abbrev pub Gives : {X E : Type 0} → E → X → Result X E → Type 0
Gives memory x (Ok y) = y ≡ x
Gives memory x (Err fault) = fault ≡ memory

-- The fault comes only where its cause holds, and where the cause holds it comes, or want of memory does.
pub record IsExact {X E : Type 0} (memory fault : E) (cause : Type 0) (result : Result X E) : Type 0 where
  pub only : result ≡ Err fault → cause
  pub comes : cause → (result ≡ Err fault) ⊎ (result ≡ Err memory)
