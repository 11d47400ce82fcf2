-- Connected links by their positions: each has an entry with its name and its place among the held links.
use Rattle.std.specs.Prelude.{◌≡◌, ℕ, Bool, not, ◌&&◌, List, filter_map, slice_get, Some}
use Rattle.std.specs.List.{AllByRecursion, list_all, list_any}
use Rattle.team_sets.specs.Names.{Name, has_name, same_name}
use Rattle.team_sets.specs.Order.{names}
use Rattle.team_model.specs.Judging.{name_of}
use Rattle.team_model.specs.declared.terms.Link.{Link}

-- What stands at these places.
abbrev pub at_places : {A : Type 0} → List A → List ℕ → List A
at_places xs places = filter_map (slice_get xs) places

-- The links of entries.
abbrev pub linked : List Link → List (Name × ℕ) → List Link
linked links entries = filter_map (λ e. slice_get links e.1) entries

-- Each entry has the name of the link at its place.
abbrev pub HasEntries : List Link → List (Name × ℕ) → Type 0
HasEntries links entries = AllByRecursion (λ e. slice_get (names name_of links) e.1 ≡ Some e.0) entries

-- With these names connected, the link may connect: it isn't one of them, and all its parents are.
abbrev pub may_stand : List Name → Link → Bool
may_stand connected x = not (has_name connected x.name) && list_all (has_name connected) x.prev

-- These are the names of the links that may connect.
abbrev pub IsReady : List Link → List Name → List Name → Type 0
IsReady links connected ready = (n : Name) → has_name ready n ≡ list_any (λ z. same_name z.name n && may_stand connected z) links
