use Rattle.std.proofs.Common.{◌∙◌, sym, arith}
use Rattle.link_graph.proofs.HeadNames.{place_here}
use Rattle.link_graph.proofs.heads.place_of.Goals as goal

pub returns-then-is_before-clause-place : goal.returns-then-is_before-clause-place
returns-then-is_before-clause-place c =
    let here = place_here c.args.name.now c.args.heads.now c.loop-place.place c.index-heads-place.result c.loop-place-test.true c.index-heads-place.is (sym c.is_before.ensures ∙ c.if-is_before.true) in
    omega (arith, here, c.loop-place.invariant)
