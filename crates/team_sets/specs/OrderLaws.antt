-- What the order is: among all lists that have each connected link once, parents first, the one whose list of names is least.
use Rattle.std.specs.List.{AllByRecursion, IsDistinct}
use Rattle.std.specs.Prelude.{◌≡◌, ◌↔◌, Bool, true, false, List, [], ◌∷◌, ◌++◌, ⊤, filter, Some, None}
use Rattle.std.specs.Ordering.{is_le, nat_cmp}
use Rattle.std.specs.Cmp.Lexicographic.{slice_cmp}
use Rattle.team_sets.specs.Names.{Name, same_name}
use Rattle.team_sets.specs.Members.{IsIn, HaveSameMembers}
use Rattle.team_sets.specs.Order.{is_next, least, names, order}

abbrev pub names_le : List Name → List Name → Bool
names_le a b = is_le (slice_cmp (slice_cmp nat_cmp) a b)

module _ {A : Type 0} (name : A → Name) where
  -- no name stands twice: the list is a set
  abbrev pub IsSet : List A → Type 0
  IsSet links = IsDistinct same_name (names name links)

  -- links of the list with one name are one link, which may stand in it more than once
  abbrev pub NamesDiffer : List A → Type 0
  NamesDiffer links = (x y : A) → IsIn x links → IsIn y links → name x ≡ name y → x ≡ y

module _ {A : Type 0} (name : A → Name) (prev : A → List Name) where
  -- each link may stand next after those before it: it is new, and its parents stand there
  abbrev pub ParentsFirst : List A → List A → Type 0
  ParentsFirst placed [] = ⊤
  ParentsFirst placed (x ∷ xs) = (is_next name prev placed x ≡ true) × ParentsFirst (placed ++ x ∷ []) xs

  -- the list, behind those placed, has links of the set alone, parents first, and no link of the set can follow
  pub record IsArrangement (links placed list : List A) : Type 0 where
    pub of_links : AllByRecursion (λ x. IsIn x links) list
    pub parents_first : ParentsFirst placed list
    pub complete : (x : A) → IsIn x links → is_next name prev (placed ++ list) x ≡ false

  -- the order is an arrangement of the set, and no arrangement has a smaller list of names
  pub record OrderIsLeast (links : List A) : Type 0 where
    pub arranged : IsArrangement links [] (order name prev links)
    pub least : (other : List A) → IsArrangement links [] other → names_le (names name (order name prev links)) (names name other) ≡ true

  -- the order depends on which links are in the set alone
  abbrev pub OrderIsOfSet : Type 0
  OrderIsOfSet = (links others : List A) → NamesDiffer name links → NamesDiffer name others → HaveSameMembers links others → order name prev links ≡ order name prev others

module _ {A : Type 0} (name : A → Name) (prev : A → List Name) where
  -- each of the list is the least of those that may stand next, and none is left behind the last
  abbrev pub IsChosenInTurn : List A → List A → List A → Type 0
  IsChosenInTurn links placed [] = least name (filter (is_next name prev placed) links) ≡ None
  IsChosenInTurn links placed (x ∷ xs) = (least name (filter (is_next name prev placed) links) ≡ Some x) × IsChosenInTurn links (placed ++ x ∷ []) xs

  -- a list that is chosen in turn is the order, and the order is chosen in turn
  abbrev pub OrderIsChosen : Type 0
  OrderIsChosen = (links list : List A) → IsChosenInTurn links [] list ↔ (list ≡ order name prev links)
