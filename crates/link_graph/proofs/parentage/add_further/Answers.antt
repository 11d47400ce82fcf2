use Rattle.std.proofs.Common.{◌≡◌, ◌∙◌, ◌<◌, ◌≤◌, ap, sym, arith, length, take, Some, slice_get}
use Rattle.link_graph.specs.Parentage.{parents_in}
use Rattle.link_graph.specs.Positions.{linked}
use Rattle.link_graph.proofs.Ancestries.{count-parents, fits-parents, front-parents, given-parents, next-parents, positions-are, whole-parents}
use Rattle.link_graph.proofs.Fitting.{entry_at, length-linked}
use Rattle.link_graph.proofs.Names.{get_within}
use Rattle.link_graph.proofs.parentage.add_further.Goals as goal

pub loop-position-init : goal.loop-position-init
loop-position-init c =
    let fits = fits-parents (linked c.args.links.now c.args.connected.now) c.args.ancestry.now c.requires.so_far in
    let many = length-linked c.args.links.now c.args.connected.now c.requires.entries in
    record {
      within = omega (arith, c.len-position.ensures, fits, many);
      later = omega (arith, c.len-position.ensures);
      so_far = c.requires.so_far ∙ ap (λ n. take n (parents_in (linked c.args.links.now c.args.connected.now))) (sym c.len-position.ensures);
    }

pub link_of-link-requires : goal.link_of-link-requires
link_of-link-requires c = record { held = let y = entry_at c.args.links.now c.args.connected.now c.loop-position.position c.place_at.result c.requires.entries c.place_at.ensures in get_within c.args.links.now c.place_at.result y.0 y.1 }

pub add-requires : goal.add-requires
add-requires c =
    let placed = linked c.args.links.now c.args.connected.now in
    let many = length-linked c.args.links.now c.args.connected.now c.requires.entries in
    let more : c.loop-position.position < length c.args.connected.now = let h = c.loop-position-test.true in omega (arith, h, c.len-position-end.ensures) in
    let within = c.loop-position.invariant.within in
    let count : length c.loop-position.ancestry ≡ c.loop-position.position =
    count-parents (linked c.args.links.now c.args.connected.now) c.loop-position.position c.loop-position.ancestry c.loop-position.invariant.so_far (omega (arith, within, many)) in
    let y = entry_at c.args.links.now c.args.connected.now c.loop-position.position c.place_at.result c.requires.entries c.place_at.ensures in
    let at : slice_get (linked c.args.links.now c.args.connected.now) c.loop-position.position ≡ Some c.link_of-link.result.now = y.2 ∙ sym y.1 ∙ c.link_of-link.ensures in
    record {
      given = given-parents (linked c.args.links.now c.args.connected.now) c.loop-position.position c.link_of-link.result.now at c.requires.first c.deref.result.now (length c.loop-position.ancestry)
          (positions-are c.args.links.now c.args.connected.now c.link_of-link.result.now c.as_slice.result.now c.deref.result.now c.requires.entries c.as_slice.ensures (c.deref.ensures.value ∙ c.in_ok-parents.ensures)) count;
      few = let few = c.requires.few in omega (arith, few, more, count);
    }

pub loop-position-preserved : goal.loop-position-preserved
loop-position-preserved c =
    let more : c.loop-position.position < length c.args.connected.now = let h = c.loop-position-test.true in omega (arith, h, c.len-position-end.ensures) in
    let later = c.loop-position.invariant.later in
    let y = entry_at c.args.links.now c.args.connected.now c.loop-position.position c.place_at.result c.requires.entries c.place_at.ensures in
    let at : slice_get (linked c.args.links.now c.args.connected.now) c.loop-position.position ≡ Some c.link_of-link.result.now = y.2 ∙ sym y.1 ∙ c.link_of-link.ensures in
    record {
      within = omega (arith, more);
      later = omega (arith, later);
      so_far = next-parents (linked c.args.links.now c.args.connected.now) c.loop-position.position c.link_of-link.result.now at c.loop-position.ancestry c.add.new.self c.deref.result.now
          c.loop-position.invariant.so_far
          (positions-are c.args.links.now c.args.connected.now c.link_of-link.result.now c.as_slice.result.now c.deref.result.now c.requires.entries c.as_slice.ensures (c.deref.ensures.value ∙ c.in_ok-parents.ensures))
          c.in_ok-add.ensures.ok;
    }

pub returns-in_err-parents-clause-kept : goal.returns-in_err-parents-clause-kept
returns-in_err-parents-clause-kept c =
    front-parents (linked c.args.links.now c.args.connected.now) c.args.ancestry.now c.loop-position.ancestry c.loop-position.position c.requires.so_far
    c.loop-position.invariant.later c.loop-position.invariant.so_far

pub returns-in_err-add-clause-kept : goal.returns-in_err-add-clause-kept
returns-in_err-add-clause-kept c =
    front-parents (linked c.args.links.now c.args.connected.now) c.args.ancestry.now c.add.new.self c.loop-position.position c.requires.so_far
    c.loop-position.invariant.later (c.in_err-add.ensures.err ∙ c.loop-position.invariant.so_far)

pub returns-clause-kept : goal.returns-clause-kept
returns-clause-kept c =
    front-parents (linked c.args.links.now c.args.connected.now) c.args.ancestry.now c.loop-position.ancestry c.loop-position.position c.requires.so_far
    c.loop-position.invariant.later c.loop-position.invariant.so_far

pub returns-clause-ok : goal.returns-clause-ok
returns-clause-ok c =
    let many = length-linked c.args.links.now c.args.connected.now c.requires.entries in
    let past : length c.args.connected.now ≤ c.loop-position.position = let h = c.loop-position-test.false in omega (arith, h, c.len-position-end.ensures) in
    whole-parents (linked c.args.links.now c.args.connected.now) c.loop-position.position c.loop-position.ancestry c.loop-position.invariant.so_far (omega (arith, many, past))
