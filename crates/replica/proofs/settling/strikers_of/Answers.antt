use Rattle.std.proofs.Common.{get_or, ℕ}
use Rattle.link_graph.specs.Held.{arrived_of}
use Rattle.link_graph.proofs.Picks.{some_at}
use Rattle.replica.proofs.Seniorities.{place_got, ranked_at, strikers_more}
use Rattle.replica.proofs.settling.strikers_of.Goals as goal

pub add_striker-requires-clause-ranked : goal.add_striker-requires-clause-ranked
add_striker-requires-clause-ranked c =
    let places = c.args.positions.now in
    let k : ℕ = c.loop-position.position-index in
    ranked_at c.args.graph.now.links places k (get_or places k 0) c.in_ok-seniority.seniority (place_got places k 0 c.loop-position-test.true) c.requires.brought c.in_ok-seniority.ensures

pub loop-position-preserved : goal.loop-position-preserved
loop-position-preserved c =
    let links = c.args.graph.now.links in
    let places = c.args.positions.now in
    let k : ℕ = c.loop-position.position-index in
    let x = some_at (arrived_of links) (get_or places k 0) (c.requires.given k 0 c.loop-position-test.true) in
    strikers_more links places k (get_or places k 0) x.0 (place_got places k 0 c.loop-position-test.true) x.1
    c.in_ok-seniority.seniority c.loop-position.acts.items c.add_striker.new.acts.items c.in_ok-seniority.ensures c.loop-position.invariant c.in_ok-add_striker.ensures
