-- How links connect as they arrive: one at a time, each behind its parents, and those that connect are those of the order.
use Rattle.std.specs.Prelude.{◌≡◌, ◌≤◌, ◌⊎◌, ◌↔◌, List, [], ◌∷◌, ◌++◌, length, filter, true, false, Some, None}
use Rattle.team_sets.specs.Names.{Name, name_lt, same_name}
use Rattle.team_sets.specs.Members.{IsIn, HaveSameMembers}
use Rattle.team_sets.specs.Order.{is_next, least, order_after, order}
use Rattle.team_sets.specs.OrderLaws.{IsSet, IsArrangement, IsChosenInTurn}
use Rattle.team_sets.specs.Insertion.{is_parent_of}
use Rattle.team_sets.specs.Arrival.{arrived}

module _ {A : Type 0} (name : A → Name) where
  -- one of the list, and none of it has a smaller name
  pub record HasLeastName (xs : List A) (y : A) : Type 0 where
    pub member : IsIn y xs
    pub below : (z : A) → IsIn z xs → name_lt (name z) (name y) ≡ false

  -- the least is told by its name, and depends on the members alone
  pub record LeastIsByName (xs : List A) : Type 0 where
    pub told : (y : A) → (least name xs ≡ Some y) ↔ HasLeastName xs y
    pub same : (ys : List A) → HaveSameMembers xs ys → least name xs ≡ least name ys

module _ {A : Type 0} (name : A → Name) (prev : A → List Name) where
  -- one link follows at a time: the least by name of those that may stand next, and then those behind it
  pub record ConnectsNext (links placed : List A) : Type 0 where
    pub ends : least name (filter (is_next name prev placed) links) ≡ None → order_after name prev (length links) placed links ≡ []
    pub goes_on : (y : A) → least name (filter (is_next name prev placed) links) ≡ Some y
        → order_after name prev (length links) placed links ≡ y ∷ order_after name prev (length links) (placed ++ y ∷ []) links
    pub in_turn : (more : List A) → IsChosenInTurn name prev links placed more ↔ (more ≡ order_after name prev (length links) placed links)

  -- once y is placed, a link that may stand next could before, or has y among its parents; and what could before still can, y aside
  pub record NextAfter (placed : List A) (y z : A) : Type 0 where
    pub was : is_next name prev (placed ++ y ∷ []) z ≡ true → (is_next name prev placed z ≡ true) ⊎ (is_parent_of name prev z y ≡ true)
    pub stays : is_next name prev placed z ≡ true → same_name (name y) (name z) ≡ false → is_next name prev (placed ++ y ∷ []) z ≡ true

  -- none of the links may stand next
  abbrev pub AllConnected : List A → List A → Type 0
  AllConnected links placed = (y : A) → IsIn y links → is_next name prev placed y ≡ false

  -- x comes to links of which none may stand next: where it can't either, none can; else it alone can, and behind it only its children
  pub record StaysConnected (links placed : List A) (x : A) : Type 0 where
    pub waits : is_next name prev placed x ≡ false → AllConnected (links ++ x ∷ []) placed
    pub alone : is_next name prev placed x ≡ true → filter (is_next name prev placed) (links ++ x ∷ []) ≡ x ∷ []
    pub children : (y : A) → IsIn y (links ++ x ∷ []) → is_next name prev (placed ++ x ∷ []) y ≡ true → is_parent_of name prev y x ≡ true

  -- what connects when x comes follows what had connected
  pub record ArrivedExtends (links : List A) (x : A) : Type 0 where
    pub extends : arrived name prev (links ++ x ∷ []) ≡ arrived name prev links ++ order_after name prev (length (links ++ x ∷ [])) (arrived name prev links) (links ++ x ∷ [])
    pub waits : is_next name prev (arrived name prev links) x ≡ false → arrived name prev (links ++ x ∷ []) ≡ arrived name prev links
    pub connects : is_next name prev (arrived name prev links) x ≡ true → arrived name prev (links ++ x ∷ [])
        ≡ (arrived name prev links ++ x ∷ []) ++ order_after name prev (length (links ++ x ∷ [])) (arrived name prev links ++ x ∷ []) (links ++ x ∷ [])

  -- those that connected are those of the order, each once and behind its parents, and the others don't change the order
  pub record ArrivedIsOrdered (links : List A) : Type 0 where
    pub arranged : IsArrangement name prev links [] (arrived name prev links)
    pub set : IsSet name (arrived name prev links)
    pub members : HaveSameMembers (arrived name prev links) (order name prev links)
    pub count : length (arrived name prev links) ≡ length (order name prev links)
    pub within : length (arrived name prev links) ≤ length links
    pub same : order name prev (arrived name prev links) ≡ order name prev links
