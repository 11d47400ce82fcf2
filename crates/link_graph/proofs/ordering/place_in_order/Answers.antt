use Rattle.std.proofs.Common.{◌∙◌, ap, sym, arith, List}
use Rattle.std.specs.Map.{keys_of}
use Rattle.team_sets.specs.Names.{Name, has_name}
use Rattle.link_graph.proofs.Lining.{keys_range, lesser_back, none_back, passed_back}
use Rattle.link_graph.proofs.ordering.place_in_order.Goals as goal

pub returns-then-has_name-clause-place : goal.returns-then-has_name-clause-place
returns-then-has_name-clause-place c =
    passed_back c.args.link.now (keys_of c.args.connected.now) c.args.order.now c.loop-i.i c.loop-i.place c.name_at-name.result.now c.loop-i-test.true c.loop-i.invariant.within c.name_at-name.ensures
    (keys_range c.args.connected.now c.args.order.now c.requires.given)
    (ap (λ (ps : List Name). has_name ps c.name_at-name.result.now) (sym c.as_slice.ensures) ∙ sym c.has_name.ensures ∙ c.if-has_name.true) c.loop-i.invariant.place

pub loop-i-preserved : goal.loop-i-preserved
loop-i-preserved c =
    let other = ap (λ (ps : List Name). has_name ps c.name_at-name.result.now) (sym c.as_slice.ensures) ∙ sym c.has_name.ensures ∙ c.if-has_name.false in
    record {
      within = omega (arith, c.loop-i.invariant.within);
      bound = c.loop-i.invariant.bound;
      place = lesser_back c.args.link.now (keys_of c.args.connected.now) c.args.order.now c.loop-i.i c.loop-i.place c.name_at-name.result.now c.loop-i-test.true c.loop-i.invariant.within c.name_at-name.ensures
          (sym c.is_before.ensures ∙ c.if-not-is_before.false) c.loop-i.invariant.place;
      none = none_back c.args.link.now (keys_of c.args.connected.now) c.args.order.now c.loop-i.i c.loop-i.place c.name_at-name.result.now c.loop-i-test.true c.loop-i.invariant.within c.name_at-name.ensures
          other c.loop-i.invariant.none;
    }
