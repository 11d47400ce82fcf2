use Rattle.std.proofs.Common.{◌≡◌, ℕ, subst, arith}
use Rattle.replica.specs.Striking.{AreNoted}
use Rattle.replica.proofs.Noting.{noted_all, noted_first}
use Rattle.replica.proofs.striking.note_lawful.Goals as goal

pub loop-earlier-init : goal.loop-earlier-init
loop-earlier-init c = noted_first c.args.graph.now.links c.args.reasons.now c.args.position c.args.pairs.now.items c.requires.before

pub returns : goal.returns
returns c =
    let last : c.loop-earlier.earlier ≡ c.args.position = omega arith in
    noted_all c.args.graph.now.links c.args.reasons.now c.args.position c.requires.last c.loop-earlier.pairs.items
    (subst (λ (k : ℕ). AreNoted c.args.graph.now.links c.args.reasons.now c.args.position k c.loop-earlier.pairs.items) last c.loop-earlier.invariant)
