use Rattle.std.proofs.Common.{◌≡◌, ◌+◌, drop}
use Rattle.link_graph.specs.Heads.{place_before}
use Rattle.link_graph.proofs.heads.place_of.Given as goal

abbrev pub invariant-loop-place : goal.invariant-loop-place
invariant-loop-place l = place_before l.name l.heads ≡ l.place + place_before l.name (drop l.place l.heads)
