use Rattle.std.proofs.Common.{◌≡◌, ◌++◌, drop}
use Rattle.lockboxes.specs.Indexes.{places_in, places_of}
use Rattle.lockboxes.proofs.places.index.Given as goal

abbrev pub invariant-loop-place : goal.invariant-loop-place
invariant-loop-place g l =
    (k : g.row.K.Denot) → places_of g.K.PartialEq.eq l.places.lists k ++ places_in g.K.PartialEq.eq l.place (drop l.place l.values) k ≡ places_in g.K.PartialEq.eq 0 l.values k
