-- Sets of numbers: lists that have no number twice.
use Rattle.std.specs.Prelude.{◌≡◌, ℕ, Bool, false, if◌then◌else◌, List, [], ◌∷◌, ◌++◌, nat_eq, slice_index_or}
use Rattle.std.specs.List.{IsDistinct}
use Rattle.team_sets.specs.Members.{IsIn}
use Rattle.team_sets.specs.Closure.{has, Reaches}

-- the numbers of a set, each below a size
pub record Numbers : Type 0 where
  pub size : ℕ
  pub members : List ℕ

abbrev pub has_number : List ℕ → ℕ → Bool
has_number ms n = has nat_eq ms n

abbrev pub added : List ℕ → ℕ → List ℕ
added ms n = if has_number ms n then ms else ms ++ n ∷ []

-- a mark at each member, and at no other number
pub record IsMarked (marks : List Bool) (members : List ℕ) : Type 0 where
  pub told : (i : ℕ) → slice_index_or marks i false ≡ has_number members i
  pub distinct : IsDistinct nat_eq members

-- the members are what is reached
pub record AreReached (arrows : List (ℕ × ℕ)) (given members : List ℕ) : Type 0 where
  pub forth : (i : ℕ) → IsIn i members → Reaches arrows given i
  pub back : (i : ℕ) → Reaches arrows given i → IsIn i members
