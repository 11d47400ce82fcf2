-- What arrows reach, in any graph.
use Rattle.std.specs.Prelude.{◌⊎◌, List, ◌++◌}
use Rattle.team_sets.specs.Members.{IsIn}
use Rattle.team_sets.specs.Closure.{Reaches}

-- arrows whose tails aren't reached without them reach nothing more
abbrev pub UnreachedAddNothing : {A : Type 0} → List (A × A) → List (A × A) → List A → Type 0
UnreachedAddNothing {A} arrows more given = ((a : A × A) → IsIn a more → Reaches arrows given a.0 → ⊥)
    → (x : A) → Reaches (arrows ++ more) given x → Reaches arrows given x

-- what is reached is given, or is the head of an arrow whose tail is reached
abbrev pub ReachedIsHead : {A : Type 0} → List (A × A) → List A → Type 0
ReachedIsHead {A} arrows given = (x : A) → Reaches arrows given x → IsIn x given ⊎ ((from : A) × IsIn (from, x) arrows × Reaches arrows given from)
