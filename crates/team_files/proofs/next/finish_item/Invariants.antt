use Rattle.std.proofs.Common.{◌≡◌, List, ℕ, ◌++◌, length}
use Rattle.team_files.specs.Bundles.{IsFront}
use Rattle.team_files.proofs.next.finish_item.Given as goal

-- what is kept has grown by a front of the piece, and is still a front of an item
abbrev pub invariant-loop-rest : goal.invariant-loop-rest
invariant-loop-rest l = record {
  grown : (front : List ℕ) × (l.piece ≡ front ++ l.rest) × (l.kept ≡ l.fn.kept ++ front);
  unfinished : IsFront l.kept;
}

abbrev pub decreases-loop-rest : goal.decreases-loop-rest
decreases-loop-rest l = length l.rest
