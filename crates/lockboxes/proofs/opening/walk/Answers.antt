use Rattle.std.proofs.Common.{rules, ◌∙◌, ap, get_or, arith}
use Rattle.lockboxes.specs.Keeping.{Keeper}
use Rattle.lockboxes.proofs.Opens.{found_within, walked_done, walked_first, walked_on}
use Rattle.lockboxes.proofs.opening.walk.Goals as goal

pub loop-next-init : goal.loop-next-init
loop-next-init g c =
    let keeper : Keeper = record { public_of = g.K.Sealer.public; unseal = g.K.Sealer.opened } in
    walked_first keeper c.args.boxes.now c.args.own.key c.args.own.secret c.new-opened.result.keys c.add.new.values.keys c.new-opened.ensures.empty c.in_ok-add.ensures

pub open_boxes-requires : goal.open_boxes-requires
open_boxes-requires g c =
    let key = c.index-as_slice-next.result.key in
    found_within _ key c.of.result.now c.as_slice.result.now c.args.boxes.now (c.of.ensures ∙ c.in_ok-places.ensures key) (c.as_slice.ensures.value ∙ c.in_ok-recipients.ensures)

pub loop-next-preserved : goal.loop-next-preserved
loop-next-preserved g c =
    let keeper : Keeper = record { public_of = g.K.Sealer.public; unseal = g.K.Sealer.opened } in
    let from = c.index-as_slice-next.result in
    let found = c.loop-next.opened.keys in
    walked_on keeper c.args.boxes.now c.args.own.key c.args.own.secret _ found c.open_boxes.new.opened.keys c.loop-next.next from c.of.result.now c.as_slice.result.now
    (c.of.ensures ∙ c.in_ok-places.ensures from.key)
    (c.as_slice.ensures.value ∙ c.in_ok-recipients.ensures)
    (omega (arith, c.loop-next-test.true, c.len.ensures.len))
    (c.index-as_slice-next.is ∙ ap (λ l. get_or l c.loop-next.next from) c.as_slice-in-loop-next.ensures.keys)
    c.loop-next.invariant c.in_ok-open_boxes.ensures (search rules) (search rules)

pub returns : goal.returns
returns g c =
    let keeper : Keeper = record { public_of = g.K.Sealer.public; unseal = g.K.Sealer.opened } in
    walked_done keeper c.args.boxes.now c.args.own.key c.args.own.secret c.loop-next.opened.keys c.loop-next.next c.loop-next.invariant (omega (arith, c.loop-next-test.false, c.len.ensures.len))
