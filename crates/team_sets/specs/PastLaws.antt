-- What a connected link has behind it.
use Rattle.std.specs.Prelude.{◌≡◌, ◌<◌, List, [], ◌∷◌, ◌++◌, length, false}
use Rattle.team_sets.specs.Names.{Name, has_name}
use Rattle.team_sets.specs.Members.{IsIn}
use Rattle.team_sets.specs.Order.{names, order}
use Rattle.team_sets.specs.Ancestry.{past}
use Rattle.team_sets.specs.OrderLaws.{NamesDiffer}

module _ {A : Type 0} (name : A → Name) (prev : A → List Name) where
  -- the past of a connected link has fewer links than the set
  abbrev pub PastIsShorter : Type 0
  PastIsShorter = (links : List A) → NamesDiffer name links → (x : A) → IsIn x (order name prev links) → length (past name prev links x) < length links

  -- it stays when a link of a new name comes
  abbrev pub PastStays : Type 0
  PastStays = (links : List A) (z : A) → NamesDiffer name links → has_name (names name links) (name z) ≡ false
      → (x : A) → IsIn x (order name prev links) → past name prev (links ++ z ∷ []) x ≡ past name prev links x
