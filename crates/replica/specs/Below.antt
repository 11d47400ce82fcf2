-- Links of a set with their pasts.
use Rattle.std.specs.Prelude.{◌≡◌, Bool, true, ◌||◌, List, filter}
use Rattle.std.specs.List.{list_all, list_any}
use Rattle.team_sets.specs.Names.{Name, has_name}
use Rattle.team_sets.specs.Ancestry.{is_before, named}
use Rattle.team_sets.specs.Order.{names}
use Rattle.team_model.specs.Judging.{name_of, order_of, prev_of}
use Rattle.team_model.specs.declared.terms.Link.{Link}

-- whether a is one of the names, or that of an ancestor of a link that has one
abbrev pub is_below : List Link → List Name → Name → Bool
is_below links heads a = has_name heads a || list_any (is_before name_of prev_of links a) (named name_of prev_of links heads)

-- the links of these names with all their ancestors
abbrev pub with_pasts : List Link → List Name → List Link
with_pasts links heads = filter (λ y. is_below links heads y.name) links

-- the names are those of connected links
abbrev pub AreConnected : List Link → List Name → Type 0
AreConnected links ns = list_all (has_name (names name_of (order_of links))) ns ≡ true
