use Rattle.std.proofs.Common.{ℕ, suc, ◌<◌, [], get_or, IsTrue}
use Rattle.team_sets.specs.Names.{name_lt}
use Rattle.head_sync.proofs.reading.ascends.Given as goal

-- each name so far is before the next
abbrev pub invariant-loop-i : goal.invariant-loop-i
invariant-loop-i l = (k : ℕ) → suc k < l.i → IsTrue (name_lt (get_or l.names k []) (get_or l.names (suc k) []))
