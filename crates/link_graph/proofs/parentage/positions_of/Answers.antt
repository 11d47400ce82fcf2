use Rattle.std.proofs.Common.{position}
use Rattle.std.specs.Map.{keys_of}
use Rattle.team_sets.specs.Names.{Name, same_name}
use Rattle.link_graph.proofs.Ancestries.{kept-more}
use Rattle.link_graph.proofs.parentage.positions_of.Goals as goal

pub loop-name-preserved : goal.loop-name-preserved
loop-name-preserved c =
    kept-more (λ (n : Name). position (same_name n) (keys_of c.args.connected.now)) c.args.names.now c.loop-name.name-index c.name-item.result c.loop-name.positions.items
    c.push_position.new.positions.items c.loop-name-test.true c.name-item.is c.loop-name.invariant c.in_ok-push_position.ensures
