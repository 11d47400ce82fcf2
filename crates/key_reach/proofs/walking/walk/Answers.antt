use Rattle.std.proofs.Common.{◌<◌, ℕ, refl, ◌∙◌, ap, get_or, eqb, arith, add-one}
use Rattle.std.proofs.lemmas.List.Elements.{All-filter}
use Rattle.key_reach.proofs.Walked.{walked-first, walked-next, walked-done}
use Rattle.key_reach.proofs.walking.walk.Goals as goal

pub loop-next-init : goal.loop-next-init
loop-next-init c = record { size = refl; walked = walked-first c.args.arrows.now c.args.reached.now.members }

pub add_heads-requires : goal.add_heads-requires
add_heads-requires c =
    rw (c.arrows_from.ensures, c.loop-next.invariant.size)
    (All-filter (λ (a : ℕ × ℕ). eqb a.0 (get_or c.as_slice.result.now c.loop-next.next 0)) (λ (a : ℕ × ℕ). a.1 < c.args.reached.now.size) c.args.arrows.now c.requires.within)

pub loop-next-preserved : goal.loop-next-preserved
loop-next-preserved c =
    let out = c.arrows_from.ensures in
    let pushed = rw out at c.in_ok-add_heads.ensures.added in
    let within = c.loop-next-test.true in
    record {
      size = c.add_heads.ensures.size ∙ c.loop-next.invariant.size;
      walked = rw add-one (walked-next c.args.arrows.now c.args.reached.now.members c.loop-next.reached.members c.loop-next.next (get_or c.as_slice.result.now c.loop-next.next 0) c.add_heads.new.reached.members
          c.loop-next.invariant.walked (omega (arith, within, c.len.ensures.len)) (ap (λ l. get_or l c.loop-next.next 0) c.as_slice.ensures.members) pushed);
    }

pub returns-clause-reached : goal.returns-clause-reached
returns-clause-reached c =
    walked-done c.args.arrows.now c.args.reached.now.members c.loop-next.reached.members c.loop-next.next c.loop-next.invariant.walked (omega (arith, c.loop-next-test.false, c.len.ensures.len))
