-- The order of a part of the set that has the parents of each of its links is the order of the set, with that part alone.
use Rattle.std.specs.Prelude.{◌≡◌, List, Bool, true, filter}
use Rattle.team_sets.specs.Names.{Name, has_name}
use Rattle.team_sets.specs.Members.{IsIn}
use Rattle.team_sets.specs.Order.{order}
use Rattle.team_sets.specs.OrderLaws.{NamesDiffer}

module _ {A : Type 0} (name : A → Name) (prev : A → List Name) where
  -- with each link that passes, its parents pass
  abbrev pub HasParents : List A → (A → Bool) → Type 0
  HasParents links part = (x y : A) → IsIn x links → part x ≡ true → IsIn y links → has_name (prev x) (name y) ≡ true → part y ≡ true

  abbrev pub OrderOfPart : Type 0
  OrderOfPart = (links : List A) (part : A → Bool) → NamesDiffer name links → HasParents links part
      → order name prev (filter part links) ≡ filter part (order name prev links)
