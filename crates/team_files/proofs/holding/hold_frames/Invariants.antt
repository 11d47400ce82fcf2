use Rattle.std.proofs.Common.{◌≡◌, List, ◌++◌, length}
use Rattle.team_model.specs.declared.terms.Link.{Link}
use Rattle.team_files.specs.Frames.{AreInOrder, frames}
use Rattle.team_files.proofs.holding.hold_frames.Given as goal

-- the links held so far are in order and the bytes are their frames with the rest behind; and of any links in order whose
-- frames the bytes are, these are the first, and the rest is the frames of the others
abbrev pub invariant-loop-rest : goal.invariant-loop-rest
invariant-loop-rest l = record {
  team : l.graph.team ≡ l.team;
  order : AreInOrder l.team l.graph.links;
  spelled : l.bytes ≡ frames l.graph.links ++ l.rest;
  only : (all : List Link) → AreInOrder l.team all → l.bytes ≡ frames all → (more : List Link) × (all ≡ l.graph.links ++ more) × (l.rest ≡ frames more);
}

abbrev pub decreases-loop-rest : goal.decreases-loop-rest
decreases-loop-rest l = length l.rest
