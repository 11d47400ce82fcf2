use Rattle.std.proofs.Common.{◌≡◌, ◌∙◌, ◌++◌, ◌∷◌, [], append_assoc, append-nil, refl, ap, sym, subst, arith, true, length, List}
use Rattle.std.specs.Map.{keys_of}
use Rattle.team_sets.specs.Names.{Name, has_name}
use Rattle.team_sets.specs.Order.{names}
use Rattle.team_model.specs.Judging.{name_of}
use Rattle.link_graph.specs.Positions.{HasEntries, IsReady, linked}
use Rattle.link_graph.proofs.Fitting.{children_range, entries_push, follow_end, follow_next, follow_short, held_within, in_links, keys_linked, keys_push, linked_push, named_at, no_keys}
use Rattle.link_graph.proofs.Names.{has_by_order}
use Rattle.link_graph.proofs.NextOnes.{added_so, first_ready, lower, none_ready, popped_has, ready_fresh, ready_held, ready_next}
use Rattle.link_graph.proofs.connecting.connect_ready.Goals as goal

pub loop-init : goal.loop-init
loop-init c = record {
  entries = c.requires.entries;
  grown = ([], sym (append-nil c.args.connected.now));
  ready = c.requires.ready;
  follow = refl;
  few = let h = follow_short c.args.holding.now (linked c.args.holding.now c.args.connected.now) (length c.args.holding.now) in omega (arith, h, c.len-end.ensures);
}

pub returns-in_default-clause-follow : goal.returns-in_default-clause-follow
returns-in_default-clause-follow c =
    let placed = linked c.args.holding.now c.loop.connected in
    let ready : IsReady c.args.holding.now (names name_of (linked c.args.holding.now c.loop.connected)) c.loop.ready.keys =
    subst (λ (ns : List Name). IsReady c.args.holding.now ns c.loop.ready.keys) (sym (keys_linked c.args.holding.now c.loop.connected c.loop.invariant.entries)) c.loop.invariant.ready in
    follow_end c.args.holding.now (linked c.args.holding.now c.loop.connected) _
    (none_ready c.args.holding.now (linked c.args.holding.now c.loop.connected) c.loop.ready.keys ready (no_keys c.loop.ready.keys c.pop_first.result c.in_default.is c.pop_first.ensures.variant))
    c.loop.invariant.follow

pub place_of-requires : goal.place_of-requires
place_of-requires c = record {
  held = ready_held c.args.holding.now (keys_of c.loop.connected) c.loop.ready.keys c.in-Some.name c.loop.invariant.ready (sym (has_by_order c.in-Some.name c.loop.ready.keys) ∙ c.in-Some.ensures.member);
}

pub overflow_cast-place_of : goal.overflow_cast-place_of
overflow_cast-place_of c = let h = held_within c.args.holding.now c.place_of.result c.in-Some.name c.place_of.ensures in omega (arith, h, c.requires.few)

pub push-requires : goal.push-requires
push-requires c = record {
  fresh = ready_fresh c.args.holding.now (keys_of c.loop.connected) c.loop.ready.keys c.in-Some.name c.loop.invariant.ready (sym (has_by_order c.in-Some.name c.loop.ready.keys) ∙ c.in-Some.ensures.member);
}

pub add_ready-requires : goal.add_ready-requires
add_ready-requires c = record {
  range = children_range c.args.holding.now c.links.result.now c.in-Some.name c.of.result.now _ c.links.ensures c.of.ensures (c.requires.children c.in-Some.name);
}

pub loop-preserved : goal.loop-preserved
loop-preserved c =
    let links = c.args.holding.now in
    let m = c.in-Some.name in
    let ns = keys_of c.loop.connected in
    let has : has_name c.loop.ready.keys c.in-Some.name ≡ true = sym (has_by_order c.in-Some.name c.loop.ready.keys) ∙ c.in-Some.ensures.member in
    let fresh = ready_fresh c.args.holding.now (keys_of c.loop.connected) c.loop.ready.keys c.in-Some.name c.loop.invariant.ready has in
    let y = named_at c.args.holding.now c.place_of.result c.in-Some.name c.place_of.ensures in
    let grows = c.in_ok-push.ensures.ok in
    let keys : keys_of c.push.new.self ≡ keys_of c.loop.connected ++ c.in-Some.name ∷ [] = ap keys_of c.in_ok-push.ensures.ok ∙ keys_push c.loop.connected c.in-Some.name c.place_of.result in
    let more : linked c.args.holding.now c.push.new.self ≡ linked c.args.holding.now c.loop.connected ++ y.0 ∷ [] =
    ap (λ es. linked c.args.holding.now es) c.in_ok-push.ensures.ok ∙ linked_push c.args.holding.now c.loop.connected c.in-Some.name c.place_of.result y.0 y.1 in
    let before : IsReady c.args.holding.now (names name_of (linked c.args.holding.now c.loop.connected)) c.loop.ready.keys =
    subst (λ (l : List Name). IsReady c.args.holding.now l c.loop.ready.keys) (sym (keys_linked c.args.holding.now c.loop.connected c.loop.invariant.entries)) c.loop.invariant.ready in
    let next = follow_next c.args.holding.now (linked c.args.holding.now c.loop.connected) (linked c.args.holding.now c.push.new.self) _ y.0 c.len-end.result c.loop.counter
    (first_ready c.args.holding.now (linked c.args.holding.now c.loop.connected) c.loop.ready.keys c.in-Some.name y.0 c.requires.set before has
    (λ n k. lower c.in-Some.name n (c.in-Some.ensures.least n (has_by_order n c.loop.ready.keys ∙ k))) (in_links c.args.holding.now c.place_of.result y.0 y.1) y.2)
    more c.loop.invariant.follow c.loop.invariant.few c.loop-test.true in
    record {
      entries = subst (λ es. HasEntries c.args.holding.now es) (sym c.in_ok-push.ensures.ok)
          (entries_push c.args.holding.now c.loop.connected c.in-Some.name c.place_of.result c.loop.invariant.entries c.place_of.ensures);
      grown = (
        c.loop.invariant.grown.0 ++ (c.in-Some.name, c.place_of.result) ∷ [],
        c.in_ok-push.ensures.ok ∙ ap (λ es. es ++ (c.in-Some.name, c.place_of.result) ∷ []) c.loop.invariant.grown.1 ∙ append_assoc c.args.connected.now c.loop.invariant.grown.0 ((c.in-Some.name, c.place_of.result) ∷ []),
      );
      ready = subst (λ (l : List Name). IsReady c.args.holding.now l c.add_ready.new.ready.keys) (sym keys)
          (ready_next c.args.holding.now (keys_of c.loop.connected) c.in-Some.name c.loop.ready.keys c.pop_first.new.self.keys c.add_ready.new.ready.keys c.of.result.now c.loop.invariant.ready fresh
          (λ n. popped_has c.in-Some.name n c.loop.ready.keys c.pop_first.new.self.keys (c.in-Some.ensures.updates.0 n)) (c.of.ensures ∙ c.requires.children c.in-Some.name)
          (λ n. added_so c.pop_first.new.self.keys c.add_ready.new.ready.keys n c.links.result.now c.args.holding.now c.of.result.now (keys_of c.push.new.self) (keys_of c.loop.connected ++ c.in-Some.name ∷ []) c.links.ensures keys (c.in_ok-add_ready.ensures.ok n)));
      follow = next.0;
      few = next.1;
    }
