-- Ancestry and height without the bound on their steps, and the past of a link as a set of its own.
use Rattle.std.specs.Prelude.{◌≡◌, ◌||◌, ◌+◌, max, true, List, [], filter, fold}
use Rattle.std.specs.List.{list_any}
use Rattle.team_sets.specs.Names.{Name, has_name}
use Rattle.team_sets.specs.Members.{IsIn}
use Rattle.team_sets.specs.Order.{order}
use Rattle.team_sets.specs.Ancestry.{named, is_before, past, height}
use Rattle.team_sets.specs.OrderLaws.{NamesDiffer}

module _ {A : Type 0} (name : A → Name) (prev : A → List Name) where
  -- the ancestors of a connected link are its parents, and theirs
  abbrev pub AncestorsAreParentsAndTheirs : Type 0
  AncestorsAreParentsAndTheirs = (links : List A) → NamesDiffer name links → (x : A) → IsIn x (order name prev links) → (a : Name)
      → is_before name prev links a x ≡ (has_name (prev x) a || list_any (is_before name prev links a) (named name prev links (prev x)))

  -- an ancestor's ancestor is an ancestor
  abbrev pub AncestryIsTransitive : Type 0
  AncestryIsTransitive = (links : List A) → NamesDiffer name links → (x y : A) → IsIn x (order name prev links) → IsIn y links → (a : Name)
      → is_before name prev links (name y) x ≡ true → is_before name prev links a y ≡ true → is_before name prev links a x ≡ true

  -- the order of a connected link's past is the order of the set, with its ancestors alone
  abbrev pub OrderOfPast : Type 0
  OrderOfPast = (links : List A) → NamesDiffer name links → (x : A) → IsIn x (order name prev links)
      → order name prev (past name prev links x) ≡ filter (λ y. is_before name prev links (name y) x) (order name prev links)

  -- an ancestor has the same past in the past of a connected link as in the set
  abbrev pub PastOfPast : Type 0
  PastOfPast = (links : List A) → NamesDiffer name links → (x y : A) → IsIn x (order name prev links) → IsIn y (order name prev (past name prev links x))
      → past name prev (past name prev links x) y ≡ past name prev links y

  -- a link without parents has height 0, and any other connected link one more than the greatest height of a parent
  pub record HasHeight (links : List A) (x : A) : Type 0 where
    pub root : prev x ≡ [] → height name prev links x ≡ 0
    pub parents : height name prev links x ≡ fold (λ h p. max h (height name prev links p + 1)) 0 (named name prev links (prev x))

  abbrev pub HeightIsOfParents : Type 0
  HeightIsOfParents = (links : List A) → NamesDiffer name links → (x : A) → IsIn x (order name prev links) → HasHeight links x
