use Rattle.std.proofs.Common.{◌≡◌, List, ◌++◌, length}
use Rattle.team_files.specs.declared.item.Item.{Item}
use Rattle.team_files.specs.Parts.{IsRun}
use Rattle.team_files.proofs.next.read_items_of.Given as goal

-- the items so far are whole ones, and the rest stands behind them
abbrev pub invariant-loop-item : goal.invariant-loop-item
invariant-loop-item l = (added : List Item) × (l.items ≡ l.fn.items ++ added) × IsRun l.bytes added l.rest

abbrev pub decreases-loop-item : goal.decreases-loop-item
decreases-loop-item l = length l.rest
