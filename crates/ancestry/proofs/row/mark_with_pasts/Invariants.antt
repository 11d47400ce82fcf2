use Rattle.std.proofs.Common.{◌≡◌, ◌||◌, ℕ, false, length, take, slice_index_or}
use Rattle.std.specs.List.{list_any}
use Rattle.ancestry.specs.Positions.{past_of}
use Rattle.ancestry.specs.Rows.{has_number, parents_of}
use Rattle.ancestry.proofs.row.mark_with_pasts.Given as goal

abbrev pub invariant-loop-position : goal.invariant-loop-position
invariant-loop-position l = record {
  size : length l.marks.items ≡ length l.rows;
  told : (i : ℕ) → slice_index_or l.marks.items i false
      ≡ (slice_index_or l.fn.marks.items i false || (has_number l.positions i || list_any (λ p. has_number (past_of (parents_of l.rows) p) i) (take l.position-index l.positions)));
}
