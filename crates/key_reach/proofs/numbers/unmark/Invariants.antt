use Rattle.std.proofs.Common.{◌≡◌, ◌&&◌, ℕ, not, false, length, take, slice_index_or}
use Rattle.key_reach.specs.Numbers.{has_number}
use Rattle.key_reach.proofs.numbers.unmark.Given as goal

abbrev pub invariant-loop-number : goal.invariant-loop-number
invariant-loop-number l = record {
  size : length l.marks.items ≡ length l.fn.marks.items;
  marks : (i : ℕ) → slice_index_or l.marks.items i false ≡ (slice_index_or l.fn.marks.items i false && not (has_number (take l.number-index l.members) i));
}
