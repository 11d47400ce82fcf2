use Rattle.std.proofs.Common.{◌≡◌, length, take}
use Rattle.link_graph.specs.Below.{AreMarked}
use Rattle.replica.specs.Settling.{standing_names}
use Rattle.replica.proofs.settling.mark_standing.Given as goal

abbrev pub invariant-loop-place : goal.invariant-loop-place
invariant-loop-place l = record {
  size : length l.flags ≡ length l.fn.flags;
  marks : AreMarked l.graph.links (standing_names (take l.place l.acts) (take l.place l.decisions)) l.fn.flags l.flags;
}
