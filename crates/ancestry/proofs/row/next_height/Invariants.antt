use Rattle.std.proofs.Common.{◌≡◌, ◌≤◌, ◌+◌, max, fold, length, take}
use Rattle.ancestry.specs.Positions.{height_of}
use Rattle.ancestry.specs.Rows.{parents_of}
use Rattle.ancestry.proofs.row.next_height.Given as goal

abbrev pub invariant-loop-parent : goal.invariant-loop-parent
invariant-loop-parent l = record {
  height : l.height ≡ fold (λ h p. max h (height_of (parents_of l.rows) p + 1)) 0 (take l.parent-index l.parents);
  low : l.height ≤ length l.rows;
}
