-- The connected links that have some names, with their ancestors.
use Rattle.std.specs.Prelude.{◌≡◌, ℕ, ◌<◌, Bool, false, not, ◌&&◌, ◌||◌, List, All, Some, filter, length, slice_get, slice_index_or}
use Rattle.std.specs.List.{list_any}
use Rattle.team_sets.specs.Names.{Name, has_name}
use Rattle.team_sets.specs.Ancestry.{is_before, named}
use Rattle.team_sets.specs.Order.{names}
use Rattle.team_model.specs.Judging.{name_of, order_of, prev_of}
use Rattle.team_model.specs.declared.terms.Link.{Link}
use Rattle.link_graph.specs.Held.{arrived_of}
use Rattle.link_graph.specs.Positions.{at_places}

-- Whether a connected link has this name.
abbrev pub is_connected : List Link → Name → Bool
is_connected links n = has_name (names name_of (order_of links)) n

-- Whether x has one of the names, or is an ancestor of a connected link that has one.
abbrev pub is_within : List Link → List Name → Link → Bool
is_within links ns x = has_name ns x.name || list_any (is_before name_of prev_of links x.name) (named name_of prev_of (order_of links) ns)

-- The connected links within the names and not within the others, in the order of the team.
abbrev pub below_of : List Link → List Name → List Name → List Link
below_of links ns others = filter (λ x. is_within links ns x && not (is_within links others x)) (order_of links)

-- These are their positions, in that order.
pub record AreBelow (links : List Link) (ns others : List Name) (positions : List ℕ) : Type 0 where
  pub given : All (λ p. p < length (arrived_of links)) positions
  pub links_are : at_places (arrived_of links) positions ≡ below_of links ns others

-- By positions: the flags of before, and those of the links with one of the names. Only private contracts cite it.
abbrev pub AreMarked : List Link → List Name → List Bool → List Bool → Type 0
AreMarked links ns old new = (i : ℕ) (x : Link) → slice_get (arrived_of links) i ≡ Some x
    → slice_index_or new i false ≡ (slice_index_or old i false || has_name ns x.name)

-- The position is marked as wanted, and isn't as unwanted.
abbrev pub is_kept : List Bool → List Bool → ℕ → Bool
is_kept wanted unwanted p = slice_index_or wanted p false && not (slice_index_or unwanted p false)
