-- Which links name a parent. Only private contracts cite it.
use Rattle.std.specs.Prelude.{◌≡◌, ℕ, ◌+◌, List, [], ◌∷◌, ◌++◌, map, filter}
use Rattle.std.specs.HashMap.{HashMap, get}
use Rattle.std.specs.Option.{option_map_or}
use Rattle.std.specs.Global.{Vec}
use Rattle.team_sets.specs.Names.{Name, same_name}
use Rattle.team_model.specs.declared.terms.Link.{Link}

-- The list at a name, which is empty where there is none.
abbrev pub children_of : {S : Type 0} → HashMap Name (Vec ℕ) S → Name → List ℕ
children_of lists n = option_map_or (λ v. v.items) (get same_name lists n) []

-- The place, as often as the name is one of the parents.
abbrev pub named : ℕ → List Name → Name → List ℕ
named place parents n = map (λ p. place) (filter (λ p. same_name p n) parents)

-- The places of those links, counted from i on, that have the name among their parents.
abbrev pub child_places : ℕ → List Link → Name → List ℕ
child_places i [] n = []
child_places i (x ∷ xs) n = named i x.prev n ++ child_places (i + 1) xs n

-- The lists are those of the links.
abbrev pub HasChildren : {S : Type 0} → List Link → HashMap Name (Vec ℕ) S → Type 0
HasChildren links lists = (n : Name) → children_of lists n ≡ child_places 0 links n
