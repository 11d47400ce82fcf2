use Rattle.std.proofs.Common.{List, drop}
use Rattle.lockboxes.specs.declared.opened.Opened.{Opened}
use Rattle.lockboxes.specs.Keeping.{Keeper}
use Rattle.lockboxes.specs.Indexes.{contents_at, IsGrown}
use Rattle.lockboxes.proofs.opening.open_boxes.Given as goal

abbrev pub invariant-loop-place : goal.invariant-loop-place
invariant-loop-place g l =
    let keeper : Keeper = record { public_of = g.K.Sealer.public; unseal = g.K.Sealer.opened } in
    (end : List Opened) → IsGrown l.opened.keys end (contents_at keeper l.secret l.boxes (drop l.place-index l.places))
    → IsGrown l.fn.opened.keys end (contents_at keeper l.secret l.boxes l.places)
