use Rattle.std.proofs.Common.{◌-◌, ◌^◌}
use Rattle.lockboxes.specs.Keeping.{Keeper}
use Rattle.lockboxes.proofs.Opens.{IsWalked}
use Rattle.lockboxes.proofs.opening.walk.Given as goal

abbrev pub decreases-loop-next : goal.decreases-loop-next
decreases-loop-next g l = 2 ^ 63 - l.next

abbrev pub invariant-loop-next : goal.invariant-loop-next
invariant-loop-next g l =
    let keeper : Keeper = record { public_of = g.K.Sealer.public; unseal = g.K.Sealer.opened } in
    IsWalked keeper l.boxes l.fn.own.key l.fn.own.secret l.opened.keys l.next
