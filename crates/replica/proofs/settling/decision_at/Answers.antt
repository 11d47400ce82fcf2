use Rattle.std.proofs.Common.{◌<◌, ◌∙◌, length, refl, arith}
use Rattle.std.proofs.lemmas.Option.{slice_get_read}
use Rattle.replica.proofs.Settles.{decided_next}
use Rattle.replica.proofs.settling.decision_at.Goals as goal

pub loop-place-preserved : goal.loop-place-preserved
loop-place-preserved c =
    let acts = c.args.settled.now.acts.items in
    let decisions = c.args.settled.now.decisions.items in
    let within : c.loop-place.place < length acts = omega arith in
    decided_next c.args.position acts decisions c.loop-place.place c.index.result.now (slice_get_read acts (length acts) c.loop-place.place c.index.result.now refl within c.index.ensures)
    (omega (arith, within, c.requires.each)) c.if-index-position.false
    ∙ c.loop-place.invariant
