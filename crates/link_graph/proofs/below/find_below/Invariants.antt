use Rattle.std.proofs.Common.{◌≡◌, filter, take}
use Rattle.link_graph.specs.Below.{is_kept}
use Rattle.link_graph.proofs.below.find_below.Given as goal

abbrev pub invariant-loop-position : goal.invariant-loop-position
invariant-loop-position l = l.found.items ≡ filter (is_kept l.wanted.items l.unwanted.items) (take l.position-index l.position-items)
