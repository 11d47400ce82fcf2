use Rattle.std.proofs.Common.{◌≡◌, ◌&&◌, ◌-◌, drop}
use Rattle.std.specs.List.{list_any}
use Rattle.key_reach.specs.Steps.{met}
use Rattle.key_reach.proofs.entitling.+meets.Given as goal

abbrev pub decreases-meets : goal.decreases-meets
decreases-meets g l = l.steps

-- what is left decides
abbrev pub invariant-loop-middle : goal.invariant-loop-middle
invariant-loop-middle g l =
    let t = g.V.KeyTable.table l.view in
    list_any (λ m. t.allowed l.from m && met t (l.steps - 1) m l.to) (drop l.middle-index l.middle-items) ≡ list_any (λ m. t.allowed l.from m && met t (l.steps - 1) m l.to) t.scopes
