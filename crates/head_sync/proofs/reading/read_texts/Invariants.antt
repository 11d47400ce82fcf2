use Rattle.std.proofs.Common.{◌≡◌, ◌≤◌, ◌++◌, length}
use Rattle.head_sync.specs.Bodies.{lent}
use Rattle.head_sync.specs.Messages.{frames_of, most_given_links}
use Rattle.head_sync.proofs.TextFrames.{AreShort}
use Rattle.head_sync.proofs.reading.read_texts.Given as goal

-- the texts so far stand in the frames so far
abbrev pub invariant-loop-rest : goal.invariant-loop-rest
invariant-loop-rest l = record {
  short : AreShort (lent l.texts);
  few : length l.texts ≤ most_given_links;
  text : l.bytes ≡ frames_of (lent l.texts) ++ l.rest;
}

abbrev pub decreases-loop-rest : goal.decreases-loop-rest
decreases-loop-rest l = length l.rest
