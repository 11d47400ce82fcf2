-- The order kept by insertion: where a link comes to stand that no link has as a parent.
use Rattle.std.specs.Prelude.{Bool, ◌||◌, if◌then◌else◌, List, [], ◌∷◌}
use Rattle.std.specs.List.{list_any}
use Rattle.team_sets.specs.Names.{Name, name_lt, has_name}

module _ {A : Type 0} (name : A → Name) (prev : A → List Name) where
  -- whether y is a parent of x
  abbrev pub is_parent_of : A → A → Bool
  is_parent_of x y = has_name (prev x) (name y)

  -- x before the first of those that stand behind all its parents and have a greater name, or last
  abbrev pub place_in : A → List A → List A
  place_in x [] = x ∷ []
  place_in x (y ∷ ys) = if list_any (is_parent_of x) (y ∷ ys) || name_lt (name y) (name x) then y ∷ place_in x ys else x ∷ y ∷ ys
