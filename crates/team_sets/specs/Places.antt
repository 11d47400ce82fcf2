-- Places in the graph: a height and a name, compared in this order.
use Rattle.std.specs.Prelude.{ℕ, Bool, if◌then◌else◌, List, [], ◌∷◌, Option, Some, None}
use Rattle.std.specs.Ordering.{is_lt, nat_cmp, ordering_then}
use Rattle.std.specs.Cmp.Lexicographic.{slice_cmp}
use Rattle.team_sets.specs.Names.{Name}

abbrev pub place_lt : ℕ × Name → ℕ × Name → Bool
place_lt a b = is_lt (ordering_then (nat_cmp a.0 b.0) (slice_cmp nat_cmp a.1 b.1))

abbrev pub lesser_place : ℕ × Name → Option (ℕ × Name) → Option (ℕ × Name)
lesser_place p None = Some p
lesser_place p (Some q) = if place_lt q p then Some q else Some p

abbrev pub least_place : List (ℕ × Name) → Option (ℕ × Name)
least_place [] = None
least_place (p ∷ ps) = lesser_place p (least_place ps)
