-- Where a link comes that no link has as a parent, the order is the old one with the link put in.
use Rattle.std.specs.Prelude.{◌≡◌, List, [], ◌∷◌, ◌++◌, true}
use Rattle.std.specs.List.{list_all}
use Rattle.team_sets.specs.Names.{Name, has_name}
use Rattle.team_sets.specs.Members.{IsIn}
use Rattle.team_sets.specs.Order.{is_next, names, order}
use Rattle.team_sets.specs.OrderLaws.{IsSet, ParentsFirst}
use Rattle.team_sets.specs.Insertion.{place_in}

module _ {A : Type 0} (name : A → Name) (prev : A → List Name) where
  -- all links are connected, and a new one comes whose parents are among them
  pub record ComesConnected (links : List A) (x : A) : Type 0 where
    pub set : IsSet name (links ++ x ∷ [])
    pub connected : (y : A) → IsIn y links → IsIn y (order name prev links)
    pub parents : list_all (has_name (names name links)) (prev x) ≡ true

  abbrev pub InsertionIsOrder : Type 0
  InsertionIsOrder = (links : List A) (x : A) → ComesConnected links x → order name prev (links ++ x ∷ []) ≡ place_in name prev x (order name prev links)

  -- the same for links that connect one by one: each was new when it came, and its parents stood there
  abbrev pub InsertionInTurn : Type 0
  InsertionInTurn = (placed : List A) (x : A) → ParentsFirst name prev [] placed → is_next name prev placed x ≡ true
      → order name prev (placed ++ x ∷ []) ≡ place_in name prev x (order name prev placed)
