use Rattle.std.specs.Prelude.{◌≡◌, ℕ, ◌&&◌, ◌==◌, List, [], ◌∷◌, map, fold, Bool, true, nat_lt}
use Rattle.std.specs.List.{list_any}
use Rattle.team_sets.specs.Names.{Name}
use Rattle.team_sets.specs.Order.{order}
use Rattle.team_sets.specs.Insertion.{place_in}
use Rattle.team_sets.specs.Arrival.{arrived}
use Rattle.team_sets.specs.Ancestry.{is_before, are_concurrent, past, height}
use Rattle.team_sets.specs.Settlement.{decision, stands, struck, lost}

pub record Node : Type 0 where
  pub name : Name
  pub prev : List Name

abbrev pub node : ℕ → List ℕ → Node
node n ps = record { name = n ∷ []; prev = map (λ p. p ∷ []) ps }

-- root 0; 5 and 4 with parent 0; 1 with parent 5; 2 with parent 4
abbrev pub five : List Node
five = node 1 (5 ∷ []) ∷ node 2 (4 ∷ []) ∷ node 5 (0 ∷ []) ∷ node 0 [] ∷ node 4 (0 ∷ []) ∷ []

abbrev pub OrderRow : Type 0
OrderRow = map (λ x. x.name) (order (λ x. x.name) (λ x. x.prev) five) ≡ (0 ∷ []) ∷ (4 ∷ []) ∷ (2 ∷ []) ∷ (5 ∷ []) ∷ (1 ∷ []) ∷ []

-- the names of the links in the order that insertion gives them, one by one
abbrev pub inserted : List Node → List Name
inserted links = map (λ x. x.name) (fold (λ sorted x. place_in (λ x. x.name) (λ x. x.prev) x sorted) [] links)

-- the same five, put in one by one as they come, in three ways
abbrev pub InsertionRow : Type 0
InsertionRow =
    (inserted (node 0 [] ∷ node 5 (0 ∷ []) ∷ node 4 (0 ∷ []) ∷ node 1 (5 ∷ []) ∷ node 2 (4 ∷ []) ∷ []) ≡ (0 ∷ []) ∷ (4 ∷ []) ∷ (2 ∷ []) ∷ (5 ∷ []) ∷ (1 ∷ []) ∷ [])
    × (inserted (node 0 [] ∷ node 5 (0 ∷ []) ∷ node 1 (5 ∷ []) ∷ node 4 (0 ∷ []) ∷ node 2 (4 ∷ []) ∷ []) ≡ (0 ∷ []) ∷ (4 ∷ []) ∷ (2 ∷ []) ∷ (5 ∷ []) ∷ (1 ∷ []) ∷ [])
    × (inserted (node 0 [] ∷ node 4 (0 ∷ []) ∷ node 2 (4 ∷ []) ∷ node 5 (0 ∷ []) ∷ node 1 (5 ∷ []) ∷ []) ≡ (0 ∷ []) ∷ (4 ∷ []) ∷ (2 ∷ []) ∷ (5 ∷ []) ∷ (1 ∷ []) ∷ [])

-- 1 and 2 come before their parents 5 and 4, and 5 before the root: each link connects with those that waited for it, the least of those ready next
abbrev pub ArrivalRow : Type 0
ArrivalRow = map (λ x. x.name) (arrived (λ x. x.name) (λ x. x.prev) five) ≡ (0 ∷ []) ∷ (5 ∷ []) ∷ (1 ∷ []) ∷ (4 ∷ []) ∷ (2 ∷ []) ∷ []

-- 0, 1 with parent 0, 2 with parent 0, 3 with parents 1 and 2
abbrev pub diamond : List Node
diamond = node 0 [] ∷ node 1 (0 ∷ []) ∷ node 2 (0 ∷ []) ∷ node 3 (1 ∷ 2 ∷ []) ∷ []

abbrev pub DiamondRow : Type 0
DiamondRow =
    (is_before (λ x. x.name) (λ x. x.prev) diamond (0 ∷ []) (node 3 (1 ∷ 2 ∷ [])) ≡ true)
    × (are_concurrent (λ x. x.name) (λ x. x.prev) diamond (node 1 (0 ∷ [])) (node 2 (0 ∷ [])) ≡ true)
    × (map (λ x. x.name) (past (λ x. x.name) (λ x. x.prev) diamond (node 3 (1 ∷ 2 ∷ []))) ≡ (0 ∷ []) ∷ (1 ∷ []) ∷ (2 ∷ []) ∷ [])
    × (height (λ x. x.name) (λ x. x.prev) diamond (node 3 (1 ∷ 2 ∷ [])) ≡ 2)

abbrev pub by_pairs : List (ℕ × ℕ) → ℕ → ℕ → Bool
by_pairs pairs x y = list_any (λ p. (p.0 == x) && (p.1 == y)) pairs

-- three acts in a ring: 1 strikes 2, 2 strikes 3, 3 strikes 1
abbrev pub ring : List (ℕ × ℕ)
ring = (1, 2) ∷ (2, 3) ∷ (3, 1) ∷ []

abbrev pub RingRow : Type 0
RingRow = map (decision nat_lt (by_pairs ring) (3 ∷ 1 ∷ 2 ∷ [])) (1 ∷ 2 ∷ 3 ∷ []) ≡ stands ∷ struck 1 ∷ lost 1 ∷ []

-- 2 removes 3, 2 removes 1, 3 removes 2, 1 removes another: acts 20, 21, 30, 10, named after their users
abbrev pub WideRow : Type 0
WideRow = map (decision nat_lt (by_pairs ((20, 30) ∷ (21, 10) ∷ (30, 20) ∷ (30, 21) ∷ [])) (30 ∷ 21 ∷ 20 ∷ 10 ∷ [])) (10 ∷ 20 ∷ 21 ∷ 30 ∷ [])
    ≡ stands ∷ stands ∷ lost 10 ∷ struck 20 ∷ []
