-- When a link that is taken waits: exactly where it isn't connected, which is where one of its parents isn't.
use Rattle.std.specs.Prelude.{◌≡◌, ◌↔◌, false, List, [], ◌∷◌, ◌++◌}
use Rattle.std.specs.List.{list_all}
use Rattle.team_sets.specs.Names.{has_name}
use Rattle.team_sets.specs.Order.{names}
use Rattle.team_sets.specs.OrderLaws.{IsSet}
use Rattle.team_model.specs.Judging.{name_of}
use Rattle.team_model.specs.declared.terms.Link.{Link}
use Rattle.link_graph.specs.Held.{answer_of, arrived_of}
use Rattle.link_graph.specs.declared.took.Took.TheVariants.{Waiting}

-- With the link held, not all its parents are connected.
abbrev pub WaitsForParents : Type 0
WaitsForParents = (links : List Link) (l : Link) → IsSet name_of (links ++ l ∷ [])
    → (answer_of links (links ++ l ∷ []) ≡ Waiting) ↔ (list_all (has_name (names name_of (arrived_of (links ++ l ∷ [])))) l.prev ≡ false)

-- With the link held, it isn't one of those connected.
abbrev pub WaitsWhereUnconnected : Type 0
WaitsWhereUnconnected = (links : List Link) (l : Link) → IsSet name_of (links ++ l ∷ [])
    → (answer_of links (links ++ l ∷ []) ≡ Waiting) ↔ (has_name (names name_of (arrived_of (links ++ l ∷ []))) l.name ≡ false)
