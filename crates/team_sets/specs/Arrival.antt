-- The connected links in the order in which they connect, as links arrive one by one.
use Rattle.std.specs.Prelude.{List, [], ◌∷◌, ◌++◌, length}
use Rattle.team_sets.specs.Names.{Name}
use Rattle.team_sets.specs.Order.{order_after}

module _ {A : Type 0} (name : A → Name) (prev : A → List Name) where
  -- where the links seen so far have these connected, and then the others arrive: each connects with those that waited for it, the least by name of those ready next
  abbrev pub arrived_after : List A → List A → List A → List A
  arrived_after connected seen [] = connected
  arrived_after connected seen (x ∷ xs) =
      arrived_after (connected ++ order_after name prev (length (seen ++ x ∷ [])) connected (seen ++ x ∷ [])) (seen ++ x ∷ []) xs

  -- the link of position i is the i-th of these
  abbrev pub arrived : List A → List A
  arrived links = arrived_after [] [] links
