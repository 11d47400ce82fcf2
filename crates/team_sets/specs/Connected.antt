-- The connected part: the least set of names that has the name of each link of the set all of whose parents it has.
use Rattle.std.specs.Prelude.{◌≡◌, ◌↔◌, List, true}
use Rattle.team_sets.specs.Names.{Name, has_name}
use Rattle.team_sets.specs.Members.{IsIn}
use Rattle.team_sets.specs.Order.{names, order}

pub data IsConnected {A : Type 0} (name : A → Name) (prev : A → List Name) (links : List A) : Name → Type 0 where
  joins : (x : A) (n : Name) → IsIn x links → name x ≡ n → ((p : Name) → IsIn p (prev x) → IsConnected name prev links p) → IsConnected name prev links n

-- the order has exactly the connected links
abbrev pub OrderIsConnected : {A : Type 0} → (A → Name) → (A → List Name) → List A → Type 0
OrderIsConnected name prev links = (n : Name) → (has_name (names name (order name prev links)) n ≡ true) ↔ IsConnected name prev links n
