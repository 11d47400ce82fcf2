use Rattle.std.proofs.Common.{ap, ◌∙◌, BTreeSet}
use Rattle.std.specs.Map.{keys_of}
use Rattle.team_sets.specs.Names.{Name, has_name}
use Rattle.link_graph.proofs.NextOnes.{pushed_has, ready_then, ready_else}
use Rattle.link_graph.proofs.ready.add_ready.Goals as goal
use Rattle.link_graph.proofs.ready.add_ready.Goals.{then-may_stand+in_ok-insert, else-may_stand}

pub loop-place-preserved : goal.loop-place-preserved
loop-place-preserved c = λ n.
    let below = c.requires.range c.loop-place.place-index 0 c.loop-place-test.true in
    elim c.if-may_stand.branch [
      | then-may_stand+in_ok-insert w ↦
          ready_then c.args.links.now (keys_of c.args.connected.now) c.args.places.now c.loop-place.place-index c.index-links-place.result c.may_stand.result c.loop-place-test.true below
          c.index-links-place.is c.may_stand.ensures n c.loop-place.ready.keys c.if-may_stand.ready.keys w.if-may_stand.true
          (ap (λ (s : BTreeSet Name). has_name s.keys n) w.ready-is ∙ pushed_has c.index-links-place.result.name n c.loop-place.ready.keys w.insert.new.self.keys (w.in_ok-insert.ensures.updates.0 n))
      | else-may_stand w ↦
          ready_else c.args.links.now (keys_of c.args.connected.now) c.args.places.now c.loop-place.place-index c.index-links-place.result c.may_stand.result c.loop-place-test.true below
          c.index-links-place.is c.may_stand.ensures n c.loop-place.ready.keys c.if-may_stand.ready.keys w.if-may_stand.false (ap (λ (s : BTreeSet Name). s.keys) w.ready-is)
    ] ∙ c.loop-place.invariant n
