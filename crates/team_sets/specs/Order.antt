-- The connected part of a set of links, and its order (the list with parents first whose list of names is least).
-- A set of links is a list of them in any order, no two with one name. A is the type of links.
use Rattle.std.specs.Prelude.{ℕ, zero, suc, Bool, not, ◌&&◌, if◌then◌else◌, List, [], ◌∷◌, ◌++◌, map, length, filter, Option, Some, None}
use Rattle.std.specs.List.{list_all}
use Rattle.std.specs.Option.{option_map_or}
use Rattle.team_sets.specs.Names.{Name, name_lt, has_name}

module _ {A : Type 0} (name : A → Name) where
  -- the lesser of two by name
  abbrev pub lesser : A → Option A → Option A
  lesser x None = Some x
  lesser x (Some y) = if name_lt (name y) (name x) then Some y else Some x

  -- the element whose name is least
  abbrev pub least : List A → Option A
  least [] = None
  least (x ∷ xs) = lesser x (least xs)

  abbrev pub names : List A → List Name
  names xs = map name xs

module _ {A : Type 0} (name : A → Name) (prev : A → List Name) where
  -- x may stand next: it doesn't stand yet, and all its parents do
  abbrev pub is_next : List A → A → Bool
  is_next placed x = not (has_name (names name placed) (name x)) && list_all (has_name (names name placed)) (prev x)

  -- those that follow the list placed, each time the one of least name that may stand next
  abbrev pub order_after : ℕ → List A → List A → List A
  order_after zero placed links = []
  order_after (suc n) placed links =
      option_map_or (λ x. x ∷ order_after n (placed ++ x ∷ []) links) (least name (filter (is_next placed) links)) []

  -- the connected links in the order of the team
  abbrev pub order : List A → List A
  order links = order_after (length links) [] links
