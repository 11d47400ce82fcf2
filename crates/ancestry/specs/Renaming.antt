-- A graph under other names: what is before what stays as it is, and so do heights.
use Rattle.std.specs.Prelude.{◌≡◌, Bool, List, map}
use Rattle.team_sets.specs.Names.{Name, same_name, has_name}
use Rattle.team_sets.specs.Members.{IsIn}
use Rattle.team_sets.specs.Ancestry.{are_concurrent, height, is_before}

module _ {A B : Type 0} (name : A → Name) (prev : A → List Name) (other_name : B → Name) (other_prev : B → List Name) where
  -- f gives each link another name, different ones for different names, and the parents accordingly
  pub record Renames (f : A → B) (links : List A) : Type 0 where
    pub names : (x y : A) → IsIn x links → IsIn y links → same_name (other_name (f x)) (other_name (f y)) ≡ same_name (name x) (name y)
    pub parents : (x y : A) → IsIn x links → IsIn y links → has_name (other_prev (f x)) (other_name (f y)) ≡ has_name (prev x) (name y)

  -- x and y stand to each other as what f makes of them
  pub record StandAlike (f : A → B) (links : List A) (x y : A) : Type 0 where
    pub before : is_before other_name other_prev (map f links) (other_name (f x)) (f y) ≡ is_before name prev links (name x) y
    pub beside : are_concurrent other_name other_prev (map f links) (f x) (f y) ≡ are_concurrent name prev links x y
    pub heights : height other_name other_prev (map f links) (f y) ≡ height name prev links y

  abbrev pub RenamedStandAlike : Type 0
  RenamedStandAlike = (f : A → B) (links : List A) → Renames f links → (x y : A) → IsIn x links → IsIn y links → StandAlike f links x y
