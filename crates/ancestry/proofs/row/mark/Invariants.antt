use Rattle.std.proofs.Common.{◌≡◌, ◌||◌, ℕ, false, length, take, slice_index_or}
use Rattle.ancestry.specs.Rows.{has_number}
use Rattle.ancestry.proofs.row.mark.Given as goal

abbrev pub invariant-loop-number : goal.invariant-loop-number
invariant-loop-number l = record {
  size : length l.marks.items ≡ length l.fn.marks.items;
  told : (i : ℕ) → slice_index_or l.marks.items i false ≡ (slice_index_or l.fn.marks.items i false || has_number (take l.number-index l.numbers) i);
}
