-- Connected links by their positions: the positions of the parents of each, and that positions stand to each other as their links.
use Rattle.std.specs.Prelude.{◌≡◌, ℕ, List, map, filter_map, position, slice_get, Some}
use Rattle.team_sets.specs.Ancestry.{are_concurrent, height, is_before}
use Rattle.team_sets.specs.Names.{same_name}
use Rattle.team_sets.specs.Order.{names}
use Rattle.team_sets.specs.OrderLaws.{IsSet}
use Rattle.team_model.specs.Judging.{name_of, prev_of}
use Rattle.team_model.specs.declared.terms.Link.{Link}
use Rattle.ancestry.specs.Positions.{are_beside, comes_before, height_of}
use Rattle.link_graph.specs.Held.{arrived_of}

-- The positions of the parents of x among these links.
abbrev pub parent_positions : List Link → Link → List ℕ
parent_positions placed x = filter_map (λ n. position (same_name n) (names name_of placed)) x.prev

-- Those of each.
abbrev pub parents_in : List Link → List (List ℕ)
parents_in placed = map (parent_positions placed) placed

-- Two positions stand to each other as the links x and y that have them.
pub record PositionsStandAs (links : List Link) (i j : ℕ) (x y : Link) : Type 0 where
  pub before : comes_before (parents_in (arrived_of links)) i j ≡ is_before name_of prev_of links x.name y
  pub beside : are_beside (parents_in (arrived_of links)) i j ≡ are_concurrent name_of prev_of links x y
  pub heights : height_of (parents_in (arrived_of links)) j ≡ height name_of prev_of links y

abbrev pub PositionsStandAsLinks : Type 0
PositionsStandAsLinks = (links : List Link) → IsSet name_of links → (i j : ℕ) (x y : Link) → slice_get (arrived_of links) i ≡ Some x → slice_get (arrived_of links) j ≡ Some y
    → PositionsStandAs links i j x y
