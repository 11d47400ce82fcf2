use Rattle.std.proofs.Common.{◌≡◌, ◌∙◌, ◌<◌, sym, subst, arith, length, take, Some, slice_get}
use Rattle.link_graph.specs.Lines.{IsLineup}
use Rattle.link_graph.specs.Positions.{linked}
use Rattle.link_graph.proofs.Fitting.{entry_at}
use Rattle.link_graph.proofs.Names.{get_within}
use Rattle.link_graph.proofs.Rows.{row_heads, row_more, row_range, row_size, row_whole, row_within}
use Rattle.link_graph.proofs.lineup.Lineup.add_all.Goals as goal

pub loop-position-init : goal.loop-position-init
loop-position-init c =
    let size : c.len-position.result ≡ length c.args.self.now.order.items = c.len-position.ensures ∙ c.args.self.now.order.ok.0 in
    record {
      within = row_within c.args.links.now c.args.connected.now (length c.args.self.now.order.items) c.len-position.result c.args.self.now c.requires.entries c.requires.so_far size;
      room = c.requires.room;
      so_far = subst (λ n. IsLineup (take n (linked c.args.links.now c.args.connected.now)) c.args.self.now) (sym size) c.requires.so_far;
    }

pub link_of-link-requires : goal.link_of-link-requires
link_of-link-requires c = record { held = let y = entry_at c.args.links.now c.args.connected.now c.loop-position.position c.place_at.result c.requires.entries c.place_at.ensures in get_within c.args.links.now c.place_at.result y.0 y.1 }

pub add-requires : goal.add-requires
add-requires c =
    let size = row_size c.args.links.now c.args.connected.now c.requires.entries c.loop-position.position c.loop-position.self c.loop-position.invariant.so_far c.loop-position.invariant.within in
    let heads = row_heads c.args.links.now c.args.connected.now c.requires.entries c.loop-position.position c.loop-position.self c.loop-position.invariant.so_far c.loop-position.invariant.within in
    let room = c.loop-position.invariant.room.order in
    let heads_room = c.loop-position.invariant.room.heads in
    let more : c.loop-position.position < length c.args.connected.now = let h = c.loop-position-test.true in omega (arith, h, c.len-position-end.ensures) in
    record {
      few = c.requires.few;
      next = omega (arith, size, more);
      range = row_range c.args.links.now c.args.connected.now c.requires.entries c.loop-position.position c.loop-position.self c.loop-position.invariant.so_far c.loop-position.invariant.within;
      order_room = omega (arith, size, more, room);
      heads_room = omega (arith, heads, more, heads_room);
    }

pub loop-position-preserved : goal.loop-position-preserved
loop-position-preserved c =
    let more : c.loop-position.position < length c.args.connected.now = let h = c.loop-position-test.true in omega (arith, h, c.len-position-end.ensures) in
    let y = entry_at c.args.links.now c.args.connected.now c.loop-position.position c.place_at.result c.requires.entries c.place_at.ensures in
    let at : slice_get (linked c.args.links.now c.args.connected.now) c.loop-position.position ≡ Some c.link_of-link.result.now = y.2 ∙ sym y.1 ∙ c.link_of-link.ensures in
    record {
      within = omega (arith, more);
      room = c.add.ensures.room (length c.args.connected.now) c.loop-position.invariant.room;
      so_far = row_more c.args.links.now c.args.connected.now c.requires.entries c.loop-position.position c.loop-position.self c.loop-position.invariant.so_far c.loop-position.invariant.within
          c.requires.first c.link_of-link.result.now at c.add.new.self c.add.ensures.order c.add.ensures.heads c.add.ensures.len;
    }

pub returns-clause-whole : goal.returns-clause-whole
returns-clause-whole c =
    row_whole c.args.links.now c.args.connected.now c.loop-position.position c.loop-position.self c.requires.entries (let h = c.loop-position-test.false in omega (arith, h, c.len-position-end.ensures)) c.loop-position.invariant.so_far
