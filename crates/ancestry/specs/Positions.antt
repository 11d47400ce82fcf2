-- A graph of positions: numbers from 0, each with its parents, which are smaller numbers. The graph is the list of the parents of
-- each position. A position is seen as a link whose name is its number, so the words for links say what is before what.
use Rattle.std.specs.Prelude.{ℕ, Bool, ◌==◌, ◌||◌, List, [], ◌∷◌, map, length, filter, slice_index_or}
use Rattle.std.specs.List.{enumerate_from, list_all, range_with_len}
use Rattle.team_sets.specs.Names.{Name}
use Rattle.team_sets.specs.Ancestry.{is_before, are_concurrent, height}

abbrev pub Parents : Type 0
Parents = List (List ℕ)

abbrev pub name_at : ℕ → Name
name_at p = p ∷ []

abbrev pub node_name : ℕ × List ℕ → Name
node_name x = name_at x.0

abbrev pub node_parents : ℕ × List ℕ → List Name
node_parents x = map name_at x.1

-- the positions as links, in order
abbrev pub nodes : Parents → List (ℕ × List ℕ)
nodes graph = enumerate_from 0 graph

abbrev pub node : Parents → ℕ → ℕ × List ℕ
node graph p = (p, slice_index_or graph p [])

-- whether a is an ancestor of b
abbrev pub comes_before : Parents → ℕ → ℕ → Bool
comes_before graph a b = is_before node_name node_parents (nodes graph) (name_at a) (node graph b)

-- two different positions, neither an ancestor of the other
abbrev pub are_beside : Parents → ℕ → ℕ → Bool
are_beside graph a b = are_concurrent node_name node_parents (nodes graph) (node graph a) (node graph b)

abbrev pub positions : Parents → List ℕ
positions graph = range_with_len 0 (length graph)

-- the ancestors of b, ascending
abbrev pub past_of : Parents → ℕ → List ℕ
past_of graph b = filter (λ a. comes_before graph a b) (positions graph)

-- whether every other position is an ancestor of b
abbrev pub has_all_before : Parents → ℕ → Bool
has_all_before graph b = list_all (λ a. (a == b) || comes_before graph a b) (positions graph)

-- 0 for a position without parents, and else one more than the greatest height of a parent
abbrev pub height_of : Parents → ℕ → ℕ
height_of graph b = height node_name node_parents (nodes graph) (node graph b)
