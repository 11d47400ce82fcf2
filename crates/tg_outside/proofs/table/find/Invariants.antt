use Rattle.std.proofs.Common.{◌≡◌, drop}
use Rattle.tg_outside.specs.Table.{newest}
use Rattle.tg_outside.proofs.table.find.Given as goal

abbrev pub invariant-loop-entry : goal.invariant-loop-entry
invariant-loop-entry l = newest l.name (drop l.entry-index l.entries) ≡ newest l.name l.entries
