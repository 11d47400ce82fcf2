use Rattle.std.proofs.Common.{◌≡◌, ◌∙◌, ◌+◌, ◌-◌, ap, false, get_or, length, refl, sym, subst, List, arith}
use Rattle.std.proofs.lemmas.List.{length-replicate}
use Rattle.team_sets.specs.Names.{Name}
use Rattle.link_graph.specs.Held.{arrived_of}
use Rattle.link_graph.specs.Below.{AreMarked}
use Rattle.link_graph.proofs.Marks.{IsMarking, all_marked, marking_begins, marking_more, marking_same, none_marked}
use Rattle.link_graph.proofs.below.mark_within.Goals as goal

pub loop-position-init : goal.loop-position-init
loop-position-init c =
    let links = c.args.graph.now.links in
    let many : length c.args.flags.now ≡ length (arrived_of links) = ap length c.requires.none ∙ length-replicate (length (arrived_of links)) false in
    subst (λ k. IsMarking links c.args.names.now k c.mark.new.flags) (sym c.connected-position.ensures)
    (marking_begins links c.is_held.ensures.set c.args.names.now c.args.flags.now c.mark.new.flags (c.mark.ensures.size ∙ many)
    (λ i. ap (λ l. get_or l i false) c.requires.none ∙ none_marked (length (arrived_of links)) i) c.mark.ensures.marks)

pub loop-position-preserved-then-flags-position : goal.loop-position-preserved-then-flags-position
loop-position-preserved-then-flags-position c =
    let links = c.args.graph.now.links in
    let back : c.loop-position.position ≡ (c.loop-position.position - 1) + 1 = omega arith in
    marking_more links c.is_held.ensures.set c.args.names.now (c.loop-position.position - 1) c.link_at.result.now c.loop-position.flags
    c.mark-then-flags-position.new.flags c.link_at.ensures c.if-flags-position.true c.mark-then-flags-position.ensures.size
    (subst (λ (ns : List Name). AreMarked links ns c.loop-position.flags c.mark-then-flags-position.new.flags) c.as_slice.ensures c.mark-then-flags-position.ensures.marks)
    (subst (λ k. IsMarking links c.args.names.now k c.loop-position.flags) back c.loop-position.invariant)

pub loop-position-preserved : goal.loop-position-preserved
loop-position-preserved c =
    let links = c.args.graph.now.links in
    let back : c.loop-position.position ≡ (c.loop-position.position - 1) + 1 = omega arith in
    marking_same links c.is_held.ensures.set c.args.names.now (c.loop-position.position - 1) c.loop-position.flags c.loop-position.flags
    c.if-flags-position.false refl (subst (λ k. IsMarking links c.args.names.now k c.loop-position.flags) back c.loop-position.invariant)

pub returns : goal.returns
returns c =
    let links = c.args.graph.now.links in
    let first : c.loop-position.position ≡ 0 = omega arith in
    all_marked links c.is_held.ensures.set c.args.names.now c.loop-position.flags
    (subst (λ k. IsMarking links c.args.names.now k c.loop-position.flags) first c.loop-position.invariant)
