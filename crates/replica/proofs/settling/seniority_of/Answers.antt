use Rattle.std.proofs.Common.{◌≡◌, ◌+◌, ◌-◌, ◌<◌, ℕ, drop, get_or, length, subst, arith}
use Rattle.link_graph.specs.Held.{arrived_of}
use Rattle.link_graph.specs.Positions.{at_places}
use Rattle.replica.specs.Settling.{HasFirsts}
use Rattle.link_graph.proofs.Picks.{some_at}
use Rattle.replica.proofs.Seniorities.{firsts_more, place_got}
use Rattle.replica.proofs.settling.seniority_of.Goals as goal

pub loop-place-preserved : goal.loop-place-preserved
loop-place-preserved c =
    let links = c.args.graph.now.links in
    let places = c.args.positions.now in
    let k : ℕ = c.loop-place.place - 1 in
    let back : c.loop-place.place ≡ k + 1 = omega arith in
    let within : k < length places = omega arith in
    let x = some_at (arrived_of links) (get_or places k 0) (c.requires.given k 0 within) in
    firsts_more links places k (get_or places k 0) x.0 c.loop-place.seniority c.note_bringing.new.seniority (place_got places k 0 within) x.1
    (subst (λ (n : ℕ). HasFirsts links (at_places (arrived_of links) (drop n places)) c.loop-place.seniority) back c.loop-place.invariant) c.in_ok-note_bringing.ensures
