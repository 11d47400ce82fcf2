-- What a set says of its links depends on which links are in it alone, and not on the order in which they stand.
use Rattle.std.specs.Prelude.{◌≡◌, List, length}
use Rattle.team_sets.specs.Names.{Name}
use Rattle.team_sets.specs.Members.{HaveSameMembers}
use Rattle.team_sets.specs.Ancestry.{is_before, past, height}
use Rattle.team_sets.specs.OrderLaws.{IsSet}

module _ {A : Type 0} (name : A → Name) (prev : A → List Name) where
  -- the number of links, and of each link its ancestors and its height
  pub record HaveSameGraph (links others : List A) : Type 0 where
    pub count : length links ≡ length others
    pub ancestors : (a : Name) (x : A) → is_before name prev links a x ≡ is_before name prev others a x
    pub pasts : (x : A) → HaveSameMembers (past name prev links x) (past name prev others x)
    pub heights : (x : A) → height name prev links x ≡ height name prev others x

  abbrev pub GraphIsOfSet : Type 0
  GraphIsOfSet = (links others : List A) → IsSet name links → IsSet name others → HaveSameMembers links others → HaveSameGraph links others
