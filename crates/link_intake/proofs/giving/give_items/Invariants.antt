use Rattle.std.proofs.Common.{take}
use Rattle.link_intake.specs.Giving.{IsGiven}
use Rattle.link_intake.proofs.giving.give_items.Given as goal

abbrev pub invariant-loop-item : goal.invariant-loop-item
invariant-loop-item l = IsGiven l.fn.graph (take l.item-index l.items) l.graph l.results
