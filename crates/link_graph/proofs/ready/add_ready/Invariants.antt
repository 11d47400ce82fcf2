use Rattle.std.proofs.Common.{◌≡◌, ◌||◌, ◌&&◌, ℕ, List, drop}
use Rattle.std.specs.List.{list_any}
use Rattle.std.specs.Map.{keys_of}
use Rattle.team_sets.specs.Names.{has_name, same_name}
use Rattle.link_graph.specs.Positions.{at_places, may_stand}
use Rattle.link_graph.proofs.ready.add_ready.Given as goal

abbrev pub invariant-loop-place : goal.invariant-loop-place
invariant-loop-place l =
    (n : List ℕ) → (has_name l.ready.keys n || list_any (λ z. same_name z.name n && may_stand (keys_of l.connected) z) (at_places l.links (drop l.place-index l.places)))
    ≡ (has_name l.fn.ready.keys n || list_any (λ z. same_name z.name n && may_stand (keys_of l.connected) z) (at_places l.links l.places))
