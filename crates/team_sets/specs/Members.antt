-- Membership by recursion, for definitions and their laws.
use Rattle.std.specs.Prelude.{◌≡◌, List, [], ◌∷◌, ◌⊎◌}

abbrev pub IsIn : {A : Type 0} → A → List A → Type 0
IsIn x [] = ⊥
IsIn x (y ∷ ys) = (y ≡ x) ⊎ IsIn x ys

-- both have the same members
pub record HaveSameMembers {A : Type 0} (xs ys : List A) : Type 0 where
  pub forth : (x : A) → IsIn x xs → IsIn x ys
  pub back : (x : A) → IsIn x ys → IsIn x xs
