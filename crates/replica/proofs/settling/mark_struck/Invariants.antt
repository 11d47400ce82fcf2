use Rattle.std.proofs.Common.{◌≡◌, ◌||◌, ℕ, false, get_or, length, take}
use Rattle.replica.specs.Settling.{is_struck_at}
use Rattle.replica.proofs.settling.mark_struck.Given as goal

abbrev pub invariant-loop-pair : goal.invariant-loop-pair
invariant-loop-pair l = record {
  size : length l.flags ≡ length l.fn.flags;
  marks : (i : ℕ) → get_or l.flags i false ≡ (get_or l.fn.flags i false || is_struck_at (take l.pair-index l.strikes) l.standing i);
}
