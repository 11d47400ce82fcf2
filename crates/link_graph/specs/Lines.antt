-- Connected links as they line up: their order by positions, and the heads. Only private contracts cite it.
use Rattle.std.specs.Prelude.{◌≡◌, ℕ, suc, ◌<◌, ◌≤◌, ◌||◌, if◌then◌else◌, List, [], ◌∷◌, length, All}
use Rattle.std.specs.List.{list_any}
use Rattle.std.specs.Vec.{vec_capacity}
use Rattle.team_sets.specs.Names.{Name, name_lt, has_name}
use Rattle.team_model.specs.Judging.{order_of}
use Rattle.team_model.specs.declared.terms.Link.{Link}
use Rattle.link_graph.specs.Heads.{heads_after}
use Rattle.link_graph.specs.Positions.{at_places}
use Rattle.link_graph.specs.declared.lineup.Lineup.{Lineup}

-- How many of the names stand before the first that is after all parents of x and greater than its name.
abbrev pub place_index : Link → List Name → ℕ
place_index x [] = 0
place_index x (n ∷ ns) = if list_any (has_name x.prev) (n ∷ ns) || name_lt n x.name then suc (place_index x ns) else 0

-- These links line up so.
pub record IsLineup (placed : List Link) (line : Lineup) : Type 0 where
  pub order : at_places placed line.order.items ≡ order_of placed
  pub range : All (λ p. p < length placed) line.order.items
  pub size : length line.order.items ≡ length placed
  pub heads : line.heads.items ≡ heads_after placed
  pub few : length line.heads.items ≤ length placed

-- So many links have room.
pub record HasRoom (n : ℕ) (line : Lineup) : Type 0 where
  pub order : n ≤ vec_capacity line.order
  pub heads : n ≤ vec_capacity line.heads
