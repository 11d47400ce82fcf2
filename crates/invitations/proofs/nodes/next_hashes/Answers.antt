use Rattle.std.proofs.Common.{◌≡◌, ◌<◌, ℕ, List, [], ◌∷◌, ◌++◌, length, length-append, refl, ◌∙◌, arith}
use Rattle.invitations.proofs.HashLines.{taken_none, taken_more, taken_stops, taken_all}
use Rattle.invitations.proofs.nodes.next_hashes.Goals as goal

pub loop-i-init : goal.loop-i-init
loop-i-init c = rw c.new-hashes.ensures (record { count = refl; taken = taken_none c.args.word.now c.args.many c.args.lines.now })

pub loop-i-preserved : goal.loop-i-preserved
loop-i-preserved c =
    let few : length c.loop-i.hashes < c.args.many = omega (arith, c.loop-i.invariant.count, c.loop-i-test.true) in
    rw c.in_ok-push-in-Some.ensures.ok (record {
      count = length-append c.loop-i.hashes (c.in-Some.hash ∷ []) ∙ omega (arith, c.loop-i.invariant.count);
      taken = taken_more c.args.word.now c.args.many c.args.lines.now c.loop-i.lines c.next_hash.new.lines c.loop-i.hashes c.in-Some.hash c.loop-i.invariant.taken c.in-Some.ensures few;
    })

pub returns-in-None : goal.returns-in-None
returns-in-None c =
    let few : length c.loop-i.hashes < c.args.many = omega (arith, c.loop-i.invariant.count, c.loop-i-test.true) in
    taken_stops c.args.word.now c.args.many c.args.lines.now c.loop-i.lines c.next_hash.new.lines c.loop-i.hashes c.loop-i.invariant.taken c.in-None.ensures few

pub returns : goal.returns
returns c =
    let all : length c.loop-i.hashes ≡ c.args.many = omega (arith, c.loop-i.invariant.count) in
    taken_all c.args.word.now c.args.many c.args.lines.now c.loop-i.lines c.loop-i.hashes c.loop-i.invariant.taken all
