-- Links by their names and their places among the held links, in order. The words of private contracts.
use Rattle.std.specs.Prelude.{ℕ, if◌then◌else◌, List, [], ◌∷◌, ◌++◌}
use Rattle.std.specs.Cmp.Lexicographic.{slice_cmp}
use Rattle.std.specs.Ordering.{nat_cmp, ordering_then}
use Rattle.std.specs.declared.cmp.Ordering.{Ordering}
use Rattle.team_sets.specs.Names.{Name}
use Rattle.team_model.specs.declared.terms.Link.{Link}
use Rattle.team_report.specs.LogText.{is_connected}

-- by name, and then by place
abbrev pub entry_cmp : Name × ℕ → Name × ℕ → Ordering
entry_cmp a b = ordering_then (slice_cmp nat_cmp a.0 b.0) (nat_cmp a.1 b.1)

-- one more, where the link at this place waits
abbrev pub entered : List Link → Link → ℕ → List (Name × ℕ) → List (Name × ℕ)
entered links x place entries = if is_connected links x then entries else entries ++ (x.name, place) ∷ []
