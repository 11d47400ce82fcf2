use Rattle.std.proofs.Common.{◌≡◌, filter, take}
use Rattle.replica.specs.Judged.{is_picked}
use Rattle.replica.proofs.resolving.pick_lawful.Given as goal

abbrev pub invariant-loop-position : goal.invariant-loop-position
invariant-loop-position l = l.found.items ≡ filter (is_picked l.marked l.reasons) (take l.position-index l.position-items)
