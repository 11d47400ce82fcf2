-- Graphs whose nodes are numbered by their places in a list that ascends.
use Rattle.std.specs.Prelude.{◌<◌, ℕ, List, [], ◌∷◌, ◌++◌, length, map, flat_map, slice_get, Option, Some}
use Rattle.std.specs.List.{All}
use Rattle.std.specs.List.Sorted.{IsNonDecreasingBy, IsStrictlySortedBy}
use Rattle.std.specs.declared.cmp.Ordering.{Ordering}
use Rattle.team_sets.specs.Members.{HaveSameMembers}

-- these values, and both ends of each arrow
abbrev pub ends : {A : Type 0} → List A → List (A × A) → List A
ends more arrows = more ++ flat_map (λ a. a.0 ∷ a.1 ∷ []) arrows

-- the nodes with these numbers, and the arrows between them
abbrev pub nodes_with : {A : Type 0} → List A → List ℕ → List (Option A)
nodes_with nodes numbers = map (λ n. slice_get nodes n) numbers

abbrev pub arrows_with : {A : Type 0} → List A → List (ℕ × ℕ) → List (Option A × Option A)
arrows_with nodes numbers = map (λ a. (slice_get nodes a.0, slice_get nodes a.1)) numbers

abbrev pub found : {A : Type 0} → List A → List (Option A)
found xs = map (λ x. Some x) xs

abbrev pub found_arrows : {A : Type 0} → List (A × A) → List (Option A × Option A)
found_arrows arrows = map (λ a. (Some a.0, Some a.1)) arrows

-- the same arrows the other way
abbrev pub turned : {A : Type 0} → List (A × A) → List (A × A)
turned arrows = map (λ a. (a.1, a.0)) arrows

-- the arrows by the numbers of their ends, in the order of their tails
pub record IsGraph {A : Type 0} (cmp : A → A → Ordering) (arrows : List (A × A)) (nodes : List A) (numbers : List (ℕ × ℕ)) : Type 0 where
  pub ascends : IsStrictlySortedBy cmp nodes
  pub rises : IsNonDecreasingBy (λ a. a.0) numbers
  pub within : All (λ a. (a.0 < length nodes) × (a.1 < length nodes)) numbers
  pub named : HaveSameMembers (arrows_with nodes numbers) (found_arrows arrows)
