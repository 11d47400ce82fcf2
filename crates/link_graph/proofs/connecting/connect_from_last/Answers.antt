use Rattle.std.proofs.Common.{◌≡◌, ◌∙◌, ◌||◌, ◌-◌, [], ◌∷◌, refl, ap, subst, false, List}
use Rattle.std.specs.List.{list_any}
use Rattle.std.specs.Map.{keys_of}
use Rattle.team_sets.specs.Names.{Name, has_name}
use Rattle.link_graph.specs.Positions.{at_places, may_stand}
use Rattle.link_graph.proofs.Fitting.{keys_linked}
use Rattle.link_graph.proofs.NextOnes.{added_so, is_ready, start_ready}
use Rattle.link_graph.proofs.connecting.connect_from_last.Goals as goal

pub connect_ready-requires : goal.connect_ready-requires
connect_ready-requires c = record {
  few = c.requires.few;
  set = c.requires.set;
  children = c.requires.children;
  entries = c.requires.entries;
  ready = start_ready c.args.holding.now (keys_of c.args.connected.now) (c.len-last.result - 1) c.add_ready.new.ready.keys c.requires.some (ap (λ n. n - 1) c.len-last.ensures)
      (λ y k. subst (λ (ns : List Name). may_stand ns y ≡ false) (keys_linked c.args.holding.now c.args.connected.now c.requires.entries) (c.requires.others y k))
      (λ n.
      added_so c.new-ready.result.keys c.add_ready.new.ready.keys n c.links.result.now c.args.holding.now ((c.len-last.result - 1) ∷ []) (keys_of c.args.connected.now) (keys_of c.args.connected.now) c.links.ensures refl (c.in_ok-add_ready.ensures.ok n)
      ∙ ap (λ (l : List Name). has_name l n || list_any (is_ready (keys_of c.args.connected.now) n) (at_places c.args.holding.now ((c.len-last.result - 1) ∷ []))) c.new-ready.ensures.empty);
}
