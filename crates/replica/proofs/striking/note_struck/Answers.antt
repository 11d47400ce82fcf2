use Rattle.std.proofs.Common.{◌<◌, ℕ, List, subst, get_or, arith}
use Rattle.std.proofs.lemmas.List.{take_all}
use Rattle.replica.specs.Striking.{AreNotedOf}
use Rattle.replica.proofs.Noted.{striking_given, struck_all, struck_first, struck_more}
use Rattle.replica.proofs.Seniorities.{place_got}
use Rattle.replica.proofs.striking.note_struck.Goals as goal

pub loop-striker-init : goal.loop-striker-init
loop-striker-init c = struck_first c.args.graph.now.links c.args.reasons.now c.args.position c.args.strikers.now c.args.pairs.now.items c.requires.before

pub loop-striker-preserved : goal.loop-striker-preserved
loop-striker-preserved c =
    let ps = c.args.strikers.now in
    let k : ℕ = c.loop-striker.striker-index in
    struck_more c.args.graph.now.links c.args.reasons.now c.args.position k (get_or ps k 0) ps c.loop-striker.pairs.items c.note_strike.new.pairs.items
    (place_got ps k 0 c.loop-striker-test.true) c.loop-striker.invariant c.in_ok-note_strike.ensures

pub returns : goal.returns
returns c =
    let ps = c.args.strikers.now in
    struck_all c.args.graph.now.links c.args.reasons.now c.args.position c.requires.last c.requires.lawful c.requires.strikes_none ps c.requires.strikers c.loop-striker.pairs.items
    (subst (λ (l : List ℕ). AreNotedOf c.args.graph.now.links c.args.reasons.now c.args.position l c.loop-striker.pairs.items) (take_all c.loop-striker.striker-index ps (omega arith)) c.loop-striker.invariant)

pub note_strike-requires-clause-striker : goal.note_strike-requires-clause-striker
note_strike-requires-clause-striker c =
    let ps = c.args.strikers.now in
    let k : ℕ = c.loop-striker.striker-index in
    let less : get_or ps k 0 < c.args.position = striking_given c.args.graph.now.links c.args.reasons.now c.args.position ps c.requires.strikers k 0 c.loop-striker-test.true in
    omega (arith, less, c.requires.given)
