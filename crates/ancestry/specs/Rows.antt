-- What is kept of each position. Only private contracts cite these words.
use Rattle.std.specs.Prelude.{◌≡◌, ◌≤◌, ◌<◌, ℕ, Bool, List, [], map, length, nat_eq, slice_index_or}
use Rattle.std.specs.List.{list_any}
use Rattle.tg_text.specs.Limits.{most_links}
use Rattle.team_sets.specs.OrderLaws.{ParentsFirst}
use Rattle.ancestry.specs.declared.row.Row.{Row}
use Rattle.ancestry.specs.Positions.{Parents, node_name, node_parents, nodes, past_of, height_of}

abbrev pub parents_of : List Row → Parents
parents_of rows = map (λ row. row.parents) rows

abbrev pub has_number : List ℕ → ℕ → Bool
has_number ns n = list_any (nat_eq n) ns

-- what a row says of its position is so
pub record IsRow (graph : Parents) (p : ℕ) (row : Row) : Type 0 where
  pub past : row.past ≡ past_of graph p
  pub height : row.height ≡ height_of graph p
  pub low : row.height ≤ p

pub record AreRows (rows : List Row) : Type 0 where
  pub few : length rows ≤ most_links
  pub parents_first : ParentsFirst node_name node_parents [] (nodes (parents_of rows))
  pub told : (p : ℕ) (d : Row) → p < length rows → IsRow (parents_of rows) p (slice_index_or rows p d)
