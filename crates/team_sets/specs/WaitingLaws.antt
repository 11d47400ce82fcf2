-- Links that wait have no effect: what a set says of its connected links depends on the order alone.
use Rattle.std.specs.Prelude.{◌≡◌, List}
use Rattle.team_sets.specs.Names.{Name}
use Rattle.team_sets.specs.Members.{IsIn}
use Rattle.team_sets.specs.Order.{order}
use Rattle.team_sets.specs.Ancestry.{are_concurrent, height, is_before, past}
use Rattle.team_sets.specs.OrderLaws.{IsSet, NamesDiffer}

module _ {A : Type 0} (name : A → Name) (prev : A → List Name) where
  -- of the connected links the same ancestors, the same order of each past, the same heights, and the same that are concurrent
  pub record HaveSameConnected (links others : List A) : Type 0 where
    pub ancestors : (x : A) → IsIn x (order name prev links) → (a : Name) → is_before name prev links a x ≡ is_before name prev others a x
    pub pasts : (x : A) → IsIn x (order name prev links) → order name prev (past name prev links x) ≡ order name prev (past name prev others x)
    pub heights : (x : A) → IsIn x (order name prev links) → height name prev links x ≡ height name prev others x
    pub concurrent : (x y : A) → IsIn x (order name prev links) → IsIn y (order name prev links) → are_concurrent name prev links x y ≡ are_concurrent name prev others x y

  -- two sets with one order say the same of their connected links
  abbrev pub ConnectedIsOfOrder : Type 0
  ConnectedIsOfOrder = (links others : List A) → NamesDiffer name links → NamesDiffer name others → order name prev links ≡ order name prev others
      → HaveSameConnected links others

  -- the connected links as a set of their own have the order of the whole set, so what waits has no effect
  pub record WaitingHaveNoEffect (links : List A) : Type 0 where
    pub set : IsSet name (order name prev links)
    pub connected : HaveSameConnected links (order name prev links)
    pub order : order name prev (order name prev links) ≡ order name prev links

  abbrev pub WaitingChangesNothing : Type 0
  WaitingChangesNothing = (links : List A) → NamesDiffer name links → WaitingHaveNoEffect links
