-- Places noted for users: the least of each user's counts.
use Rattle.std.specs.Prelude.{◌≡◌, ℕ, Bool, true, ◌∷◌, if◌then◌else◌, List, map, filter, Option, Some, None}
use Rattle.std.specs.Map.{lookup}
use Rattle.std.specs.Ordering.{eq_by_cmp, nat_cmp}
use Rattle.std.specs.Cmp.Lexicographic.{slice_cmp}
use Rattle.team_sets.specs.Names.{Name, same_name}
use Rattle.team_sets.specs.Places.{place_lt, least_place, lesser_place}

-- the place that a table has for a user
abbrev pub rank_of : List (Name × (ℕ × Name)) → Name → Option (ℕ × Name)
rank_of rows user = lookup (eq_by_cmp (slice_cmp nat_cmp) user) rows

-- whether a place is smaller than that of a user, or the user's first
abbrev pub is_smaller : ℕ × Name → Option (ℕ × Name) → Bool
is_smaller p None = true
is_smaller p (Some q) = place_lt p q

-- the places of users once one more is noted: the lesser stays
abbrev pub noted : Name → ℕ × Name → (Name → Option (ℕ × Name)) → Name → Option (ℕ × Name)
noted user p ranks u = if same_name user u then lesser_place p (ranks u) else ranks u

-- the least of the places that were noted for a user
abbrev pub least_of : List (Name × (ℕ × Name)) → Name → Option (ℕ × Name)
least_of notes u = least_place (map (λ n. n.1) (filter (λ n. same_name n.0 u) notes))

-- where a table has the least places of some notes, then once one more is noted, it has those of all
abbrev pub NotedIsLeast : Type 0
NotedIsLeast = (ranks : Name → Option (ℕ × Name)) (notes : List (Name × (ℕ × Name))) → ((u : Name) → ranks u ≡ least_of notes u)
    → (user : Name) (p : ℕ × Name) (u : Name) → noted user p ranks u ≡ least_of ((user, p) ∷ notes) u
