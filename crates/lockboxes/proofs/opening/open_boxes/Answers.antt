use Rattle.std.proofs.Common.{◌≡◌, ℕ, List, sym, ◌∙◌, ap, subst, Some, get_or, slice_get}
use Rattle.std.proofs.lemmas.List.{drop_all}
use Rattle.std.proofs.lemmas.Option.{slice_get-get_or}
use Rattle.lockboxes.specs.Indexes.{IsGrown, contents_at}
use Rattle.lockboxes.specs.Keeping.{Keeper}
use Rattle.lockboxes.proofs.Opens.{contents_step, grown_none}
use Rattle.lockboxes.proofs.opening.open_boxes.Goals as goal

pub loop-place-preserved : goal.loop-place-preserved
loop-place-preserved g c = λ end rest.
    let keeper : Keeper = record { public_of = g.K.Sealer.public; unseal = g.K.Sealer.opened } in
    let i = c.loop-place.place-index in
    let place = get_or c.args.places.now i 0 in
    let line = c.index-boxes-place.result in
    let stands : slice_get c.args.boxes.now place ≡ Some line =
    slice_get-get_or c.args.boxes.now place line (c.requires i 0 c.loop-place-test.true) ∙ ap (λ b. Some b) (sym c.index-boxes-place.is) in
    c.loop-place.invariant end
    (contents_step keeper c.args.secret.now c.args.boxes.now c.args.places.now i 0 line c.loop-place.opened.keys c.open_box.new.opened.keys end c.loop-place-test.true stands c.in_ok-open_box.ensures rest)

pub returns : goal.returns
returns g c =
    let keeper : Keeper = record { public_of = g.K.Sealer.public; unseal = g.K.Sealer.opened } in
    let keys = c.loop-place.opened.keys in
    let done = drop_all c.loop-place.place-index c.args.places.now c.loop-place-test.false in
    c.loop-place.invariant keys (subst (λ (l : List ℕ). IsGrown keys keys (contents_at keeper c.args.secret.now c.args.boxes.now l)) (sym done) (grown_none keys))
