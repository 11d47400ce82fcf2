use Rattle.indexmap.proofs.CallerLemmas.{insert_entry-new}
use Rattle.team_sets.specs.Names.{same_name}
use Rattle.link_graph.proofs.Names.{lookup_absent}
use Rattle.link_graph.proofs.connected.Connected.push.Goals as goal

pub returns-clause-ok : goal.returns-clause-ok
returns-clause-ok c =
    rw (c.in_ok-insert.ensures.entries, ← c.self.view_is)
    (insert_entry-new same_name c.self.inside.places c.args.name.now c.args.place (lookup_absent c.args.name.now c.self.inside.places.entries (rw (← c.self.view_is) at c.requires.fresh)))
