use Rattle.std.proofs.Common.{◌≡◌, length, take}
use Rattle.link_graph.specs.Held.{arrived_of}
use Rattle.link_graph.specs.Below.{AreMarked}
use Rattle.link_graph.proofs.below.mark.Given as goal

abbrev pub invariant-loop-name : goal.invariant-loop-name
invariant-loop-name l = record {
  size : length l.flags ≡ length (arrived_of l.graph.links);
  marks : AreMarked l.graph.links (take l.name-index l.names) l.fn.flags l.flags;
}
